pub mod ComposesForest
pub mod EntersBlock
