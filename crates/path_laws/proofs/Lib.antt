pub mod Indexes
pub mod SiblingMatches
pub mod FoundPaths
pub mod IndexedGroups
