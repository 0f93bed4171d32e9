pub mod FirstFault
pub mod Capped
pub mod HashedNames
pub mod Scans
pub mod Sequential
