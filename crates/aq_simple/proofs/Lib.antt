pub mod Lists
pub mod Kept
pub mod Stands
pub mod Definitions
pub mod Reasons
