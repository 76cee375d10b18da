pub mod Reports
pub mod Progress
