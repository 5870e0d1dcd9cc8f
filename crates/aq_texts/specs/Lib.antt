pub mod Written
pub mod Canon
pub mod Rows
pub mod Replies
pub mod Schedules
pub mod Traces
