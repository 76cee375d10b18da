pub mod Reasons
pub mod Line
