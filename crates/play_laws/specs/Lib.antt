pub mod PrintedHistory
pub mod Woven
pub mod FirstParts
pub mod FramesInTurn
pub mod PartTurns
pub mod Laws
