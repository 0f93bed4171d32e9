pub mod Texts
pub mod Digits
pub mod Trees
pub mod Jsons
pub mod SortedNames
