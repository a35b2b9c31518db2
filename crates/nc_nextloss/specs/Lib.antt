pub mod Laws
pub mod Firsts
pub mod GoodCodes
