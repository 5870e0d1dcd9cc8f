pub mod Bodies
pub mod Joining
pub mod Expressions
pub mod TraceLines
pub mod Worked
