pub mod EntryLaws
pub mod ActLaws
pub mod HistoryLaws
pub mod LossLaws
pub mod GetLaws
pub mod RepairLaws
