pub mod Sound
pub mod Refusals
