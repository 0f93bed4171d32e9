pub mod KnownTrees
