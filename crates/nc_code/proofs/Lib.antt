pub mod RepairDots
pub mod RepairLemmas
pub mod FilledRows
pub mod SameParts
pub mod StripedParts
