pub mod Chunks
pub mod Clouds
pub mod Finding
pub mod FindingOnVaults
pub mod Listing
pub mod ListingOnVaults
pub mod Seeing
