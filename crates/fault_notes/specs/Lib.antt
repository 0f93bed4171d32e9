pub mod Kept
pub mod Lines
pub mod Extents
pub mod Pointing
