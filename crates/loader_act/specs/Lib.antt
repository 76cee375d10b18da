pub mod Told
pub mod Acts
