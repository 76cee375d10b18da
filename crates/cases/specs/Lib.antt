pub mod Feeding
pub mod LinkCalls
pub mod Packets
pub mod Cases
pub mod Digests
pub mod Pins
pub mod Listing
pub mod Example
