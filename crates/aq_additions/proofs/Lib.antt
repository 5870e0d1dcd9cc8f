pub mod FreeNames
pub mod TakenNames
pub mod Extending
pub mod Nulls
pub mod AddedReferences
pub mod Repeats
