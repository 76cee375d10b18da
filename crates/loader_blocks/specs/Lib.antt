pub mod Flash
pub mod Memory
