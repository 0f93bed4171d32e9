pub mod OtherOffsets
pub mod CanonicalTexts
pub mod WovenRuns
