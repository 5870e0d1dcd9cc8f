pub mod Transitions
pub mod TriggerLines
