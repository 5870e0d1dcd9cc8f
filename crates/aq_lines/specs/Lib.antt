pub mod Surviving
pub mod Transactions
pub mod Committed
pub mod Due
pub mod Firing
