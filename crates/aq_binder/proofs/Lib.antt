pub mod NamePairs
pub mod NameForms
pub mod NameLoops
pub mod Repeated
pub mod KindForms
pub mod BoundAnswers
pub mod BodyForms
pub mod BoundBodies
