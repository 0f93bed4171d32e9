pub mod Texts
pub mod Worlds
pub mod PartFacts
pub mod PartsMade
pub mod Sequences
pub mod Openings
pub mod ActorEnds
pub mod Crossing
