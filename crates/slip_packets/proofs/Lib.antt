pub mod Unescape
pub mod Cut
pub mod Invariant
pub mod Runs
pub mod Forgotten
pub mod FirstDecides
pub mod Theorems
