pub mod NewWorlds
pub mod Histories
mod KnownTrees
