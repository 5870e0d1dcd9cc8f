pub mod Catalogs
pub mod Indexed
pub mod Numbered
pub mod Listed
pub mod Marks
