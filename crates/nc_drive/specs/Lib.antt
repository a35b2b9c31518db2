pub mod Driving
pub mod Endings
pub mod Fleets
pub mod Laws
pub mod Limits
pub mod Marks
pub mod Outcomes
