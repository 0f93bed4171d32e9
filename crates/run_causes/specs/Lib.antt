pub mod Causes
pub mod CauseLaws
pub mod TableCauses
pub mod OldMatches
