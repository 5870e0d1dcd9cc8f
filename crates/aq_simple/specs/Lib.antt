pub mod Forms
pub mod Conditions
pub mod Simple
pub mod Steps
