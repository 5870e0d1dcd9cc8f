pub mod Committed
pub mod Finite
pub mod Default
