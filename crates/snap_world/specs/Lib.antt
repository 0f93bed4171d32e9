pub mod Holding
pub mod HoldingLaws
pub mod Choices
pub mod Noting
pub mod Stamps
pub mod Sorted
pub mod Overwrites
