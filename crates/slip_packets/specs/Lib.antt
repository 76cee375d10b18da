pub mod Packets
pub mod Run
pub mod WithoutReasons
pub mod Theorems
