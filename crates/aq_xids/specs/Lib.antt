pub mod Subtransactions
pub mod Kept
pub mod Sets
