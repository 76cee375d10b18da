pub mod Behind
pub mod Digits
pub mod Lines
pub mod Names
pub mod Numbers
