pub use Rattle.aq_refusals.specs.Answers
pub use Rattle.aq_setup.specs.Names
pub use Rattle.aq_setup.specs.Scopes
pub use Rattle.aq_setup.specs.Binding
pub use Rattle.aq_setup.specs.Bodies
pub mod Repeating
pub mod Targets
