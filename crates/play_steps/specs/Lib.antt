pub mod ActorNotes
pub mod PartLists
