pub mod Laws
pub mod Verdicts
pub mod Others
pub mod Relations
