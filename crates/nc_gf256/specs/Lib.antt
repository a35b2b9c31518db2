pub mod Field
pub mod Laws
pub mod Rows
pub mod Width
