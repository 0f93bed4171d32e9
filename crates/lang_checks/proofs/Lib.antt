pub mod Least
pub mod Rows
pub mod Steps
pub mod Numbered
pub mod Fine
pub mod Capped
pub mod RisingSites
