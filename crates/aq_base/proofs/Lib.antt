pub mod Lists
pub mod Maps
pub mod Values
pub mod Trees
