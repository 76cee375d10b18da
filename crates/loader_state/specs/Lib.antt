pub mod Record
pub mod Refusals
