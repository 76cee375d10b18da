pub mod Sessions
pub mod Flash
pub mod Lengths
pub mod Agreement
pub mod Theorems
