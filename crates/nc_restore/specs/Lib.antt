pub mod Asking
pub mod Restored
pub mod Restoring
pub mod Reading
