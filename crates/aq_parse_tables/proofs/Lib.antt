pub mod Joining
pub mod ColumnConstraints
pub mod FewerTokens
