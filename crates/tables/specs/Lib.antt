pub mod Fields
pub mod Hex
pub mod Numbers
pub mod Rows
