pub mod Sectors
pub mod Quotients
pub mod Rules
pub mod Count
