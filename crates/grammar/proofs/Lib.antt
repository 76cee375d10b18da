pub mod Goodness
pub mod Numbers
pub mod Reader
pub mod Between
pub mod Loaded
pub mod Theorems
pub mod Witness
