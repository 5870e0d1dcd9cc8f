pub use Rattle.aq_refusals.specs.Answers
pub use Rattle.aq_setup.specs.Setup
pub mod Stages
pub mod Built
