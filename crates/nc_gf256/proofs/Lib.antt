pub mod Cases
pub mod Adding
pub mod FieldLaws
pub mod PowerLemmas
pub mod Sums
pub mod Units
pub mod RowSums
