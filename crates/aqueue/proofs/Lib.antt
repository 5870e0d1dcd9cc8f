pub mod Answering
pub mod Texts
pub mod Refused
