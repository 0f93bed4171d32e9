mod Laws
mod Spares
mod Entries
mod Removals
mod Rooms
