pub mod ShorterItems
pub mod Targets
pub mod ColumnConstraints
