pub mod Bytes
pub mod Pieces
pub mod Running
pub mod Once
pub mod Values
pub mod Worked
