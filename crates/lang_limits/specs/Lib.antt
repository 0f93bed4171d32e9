pub mod LeastOffset
pub mod Tokens
pub mod Sizes
pub mod Clamped
pub mod Laws
