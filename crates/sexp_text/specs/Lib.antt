pub mod Forest
pub mod View
pub mod Grammar
pub mod TextFaults
pub mod Layout
pub mod Machine
pub mod Same
