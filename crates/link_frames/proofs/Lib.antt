pub mod Holder
pub mod Sizes
pub mod Writing
pub mod ByKind
