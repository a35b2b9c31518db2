pub mod RowLemmas
pub mod TableLemmas
pub mod StepLemmas
pub mod EndLemmas
