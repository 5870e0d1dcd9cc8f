pub mod Sections
pub mod Parsing
pub mod Reading
pub mod RefusedLines
