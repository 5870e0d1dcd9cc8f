pub mod Blocks
pub mod StatementFits
pub mod ParsedAt
pub mod RefusedOnce
