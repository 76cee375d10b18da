pub mod Passing
pub mod Fitting
pub mod Carried
pub mod Handled
pub mod Bodies
