pub mod Answers
pub mod Hearing
pub mod Step
