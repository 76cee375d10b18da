pub mod Numbers
pub mod Errors
pub mod Attach
pub mod Codes
