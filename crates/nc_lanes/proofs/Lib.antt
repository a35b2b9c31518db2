pub mod LaneLemmas
pub mod LookUps
pub mod Bits
pub mod Progress
pub mod DotLemmas
