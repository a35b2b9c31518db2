pub mod Flaws
pub mod Tables
