pub mod Histories
pub mod Laws
pub mod Runs
pub mod Repairs
pub mod Values
