pub mod Counts
pub mod Taken
pub mod Put
pub mod MemorySource
pub mod MemorySink
pub mod Gathered
pub mod Written
