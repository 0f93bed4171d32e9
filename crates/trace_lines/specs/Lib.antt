pub mod TraceLines
pub mod ProgramLine
pub mod LineLaws
