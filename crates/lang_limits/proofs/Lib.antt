pub mod Lesser
pub mod Ints
pub mod Walks
pub mod Copies
pub mod Parts
