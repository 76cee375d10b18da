pub mod Grammar
pub mod Loaded
pub mod Theorems
pub mod Witness
