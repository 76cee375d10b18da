pub mod Editions
pub mod Frames
pub mod Reading
pub mod Writing
pub mod Kinds
