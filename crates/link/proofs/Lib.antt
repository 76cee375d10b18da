pub mod Padded
pub mod Kept
pub mod Hearing
pub mod Calls
