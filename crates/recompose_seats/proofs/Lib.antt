pub mod TakePlaces
pub mod SeatFrames
