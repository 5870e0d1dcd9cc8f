pub mod Operators
pub mod Answers
pub mod Evaluation
