pub mod AskLaws
pub mod FlawLaws
pub mod GetLaws
pub mod ListLaws
pub mod ScrubLaws
pub mod TableLaws
pub mod WrongLaws
