pub mod Reusing
pub mod Lowest
