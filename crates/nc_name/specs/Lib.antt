pub mod Counts
pub mod Names
pub mod Stored
pub mod Keys
pub mod Texts
