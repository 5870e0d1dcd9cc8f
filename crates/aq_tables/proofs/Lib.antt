pub mod NamedTwice
pub mod Items
pub mod Pairs
