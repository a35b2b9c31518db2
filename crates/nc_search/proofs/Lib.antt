pub mod Words
pub mod Rows
pub mod TryLemmas
pub mod PlanLists
pub mod StartLemmas
pub mod RepairProofs
