pub mod Telling
pub mod Loops
