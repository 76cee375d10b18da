pub mod Judged
pub mod Acted
pub mod Calls
