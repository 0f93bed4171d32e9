pub mod WovenText
pub mod ActorsCalls
pub mod ActorSteps
