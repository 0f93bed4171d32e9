pub mod Parts
pub mod Ordered
pub mod BySite
pub mod StateReads
