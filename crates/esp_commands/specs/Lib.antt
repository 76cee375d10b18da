pub mod Numbers
pub mod Names
pub mod Header
pub mod Block
pub mod Status
