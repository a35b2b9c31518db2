pub mod Parts
pub mod Codes
pub mod Striped
pub mod Good
pub mod RepairLaw
pub mod Tries
