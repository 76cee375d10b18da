pub mod Entries
pub mod Rotation
pub mod Numbers
