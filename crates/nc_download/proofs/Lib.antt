pub mod InnerLaws
pub mod Judged
pub mod ChunkLaws
pub mod ViewLaws
pub mod FindLaws
pub mod ListLaws
pub mod GotLaws
