pub mod Clock
pub mod Link
pub mod Rates
pub mod Silence
pub mod Opening
