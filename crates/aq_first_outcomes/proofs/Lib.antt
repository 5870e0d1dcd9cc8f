pub mod Rows
pub mod References
