pub mod Uniques
pub mod Numbers
pub mod TreeLines
pub mod Refusals
pub mod Plays
pub mod Sizes
mod KnownFaults
mod OneFault
mod Parses
mod Total
mod PlainNames
