pub mod States
pub mod Replies
pub mod Effects
pub mod Steps
pub mod Runs
pub mod Texts
pub mod Told
