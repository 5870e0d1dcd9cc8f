pub mod Catalogs
pub mod Databases
pub mod Writes
pub mod Works
pub mod References
pub mod Setup
pub mod Scripts
