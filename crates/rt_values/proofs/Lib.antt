pub mod Equal
pub mod TextPrefixes
pub mod Lists
pub mod PrintedForms
pub mod Quotients
pub mod Views
