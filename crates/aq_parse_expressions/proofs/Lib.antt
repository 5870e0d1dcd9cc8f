pub mod Levels
pub mod TooLong
