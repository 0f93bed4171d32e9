pub mod ReplacedItems
pub mod GroupForests
