pub mod Told
pub mod Written
pub mod Uses
mod Unchanged
mod Insides
pub mod Promises
pub mod Determined
mod Possible
