pub mod PairProofs
pub mod Shown
pub mod StripedRows
pub mod StripedMds
pub mod RelationProofs
