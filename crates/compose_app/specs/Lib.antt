pub mod Openings
pub mod Programs
pub mod ScreenCodes
pub mod Screens
pub mod StateCalls
