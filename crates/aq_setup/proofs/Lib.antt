pub mod Expressions
pub mod Worked
pub mod BlocksWorked
