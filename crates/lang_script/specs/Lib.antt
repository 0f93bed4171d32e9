pub mod SnapshotNames
pub mod Scripts
pub mod ScriptFaults
pub mod StepCalls
pub mod StepLaws
pub mod NamesInMemory
pub mod NameScans
