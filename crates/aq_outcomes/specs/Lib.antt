pub mod Schemas
pub mod Parties
pub mod Faults
pub mod Rows
pub mod Queued
pub mod References
pub mod Sources
