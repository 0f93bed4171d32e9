pub mod SeatFrames
