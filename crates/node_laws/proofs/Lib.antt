pub mod StatementSites
pub mod ToldForests
pub mod KeptSites
pub mod GivenNumbers
pub mod ForestTrees
pub mod KeptShapes
pub mod ProgramNodes
pub mod TracedReads
