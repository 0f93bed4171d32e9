pub mod TreeJson
pub mod LastDigits
pub mod Lines
pub mod PrintedCalls
pub mod GroupLines
pub mod GroupJson
pub mod SortedAttributes
