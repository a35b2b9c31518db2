pub mod Cells
pub mod Products
pub mod Elimination
pub mod Inverted
