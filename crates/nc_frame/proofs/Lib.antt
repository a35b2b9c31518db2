pub mod Shapes
pub mod FrameLaws
pub mod LaidLaws
