pub mod NameTests
pub mod Printing
pub mod Stepping
