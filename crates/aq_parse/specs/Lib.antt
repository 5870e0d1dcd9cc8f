pub mod Shorter
pub mod Functions
pub mod Triggers
pub mod Bodies
pub mod Statements
pub mod Parsed
