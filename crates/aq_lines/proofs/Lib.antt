pub mod Told_apart
