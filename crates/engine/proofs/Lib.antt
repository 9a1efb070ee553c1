pub mod Spreads
mod Keepings
mod Backwards
mod Readings
mod Insides
mod Bits
mod Searches
mod Tracings
mod Walking
mod Handing
mod Meeting
mod Steps
mod Advances
mod Loads
pub mod Settlings
