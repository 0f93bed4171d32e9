pub mod GroupPaths
pub mod SiblingEquality
