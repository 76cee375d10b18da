pub mod DigitByDigit
pub mod Library
