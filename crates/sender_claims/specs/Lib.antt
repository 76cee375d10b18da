pub mod Reads
pub mod Judged
pub mod Fed
pub mod Succeeds
pub mod Stands
pub mod Worked
