pub mod Ordering
pub mod Behind
pub mod Altered
pub mod Building_on
