pub mod Settings
pub mod Log
