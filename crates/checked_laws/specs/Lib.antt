pub mod CheckedPrograms
