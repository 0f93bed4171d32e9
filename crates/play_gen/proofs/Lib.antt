pub mod Parts
mod Texts
mod RoundLists
pub mod CountedParts
pub mod CountedRounds
pub mod FaultlessScript
