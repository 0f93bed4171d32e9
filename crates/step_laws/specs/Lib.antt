pub mod Costs
pub mod Sums
pub mod FrameCosts
