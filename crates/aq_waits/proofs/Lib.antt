pub mod Steps_up
