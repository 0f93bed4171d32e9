pub mod TraceText
pub mod TraceOutput
pub mod TraceState
