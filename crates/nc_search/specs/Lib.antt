pub mod Stream
pub mod Tries
pub mod Starts
pub mod Repairs
pub mod Searches
