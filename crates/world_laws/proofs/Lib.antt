pub mod MapDifferences
pub mod Watching
pub mod CleanApplies
pub mod WriteSkew
pub mod SerialHistories
pub mod WovenApart
