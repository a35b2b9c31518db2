pub mod Mills
pub mod Sures
pub mod Stages
pub mod Ends
