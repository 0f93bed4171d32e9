pub mod GroupForest
pub mod PreorderGroups
pub mod Paths
pub mod Frames
pub mod Nodes
