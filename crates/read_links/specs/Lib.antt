pub mod LinkLists
pub mod Storage
