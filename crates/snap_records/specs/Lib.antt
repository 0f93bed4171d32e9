pub mod Records
pub mod Edits
pub mod RecordLaws
pub mod Places
pub mod Chains
