pub mod Step
pub mod RunStep
