pub mod Databases
pub mod Setup
