pub mod Words
pub mod Functions
pub mod Tables
pub mod Rounds
