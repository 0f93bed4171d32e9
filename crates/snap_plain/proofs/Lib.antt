pub mod Settles
pub mod Shapes
pub mod Tests
