pub mod Firsts
pub mod Literals
