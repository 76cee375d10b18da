pub mod Core
pub mod Effects
pub mod Handle
