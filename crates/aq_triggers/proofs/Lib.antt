pub mod FirstNames
pub mod MadeTriggers
pub mod PutBack
