pub mod Parts
pub mod Metas
