pub mod Running
pub mod Worked
pub mod Told_bytes
pub mod Told_runs
pub mod Told
pub mod Told_worked
