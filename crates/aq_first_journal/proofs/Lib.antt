pub mod Journaling
