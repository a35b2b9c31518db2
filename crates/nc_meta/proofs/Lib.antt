pub mod Each
pub mod Padding
pub mod PlanParts
pub mod RowTables
pub mod MetaParts
pub mod LiveParts
pub mod OneSpelling
pub mod MetasFit
