pub use Rattle.aq_refusals.specs.Answers
pub use Rattle.aq_setup.specs.Tables
pub mod References
pub mod Pairs
