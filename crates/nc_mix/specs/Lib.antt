pub mod Mixing
pub mod Decoding
pub mod Regenerating
pub mod Strips
pub mod Sums
pub mod Placing
