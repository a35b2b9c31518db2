pub mod Asking
pub mod Giving
pub mod Mending
pub mod Remaking
pub mod Repairing
pub mod Survivors
