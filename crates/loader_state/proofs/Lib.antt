pub mod LetPass
