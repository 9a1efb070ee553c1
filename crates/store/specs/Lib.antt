pub mod Fun
pub mod Meaning
pub mod Tasks
pub mod Calls
pub mod Numbers
pub mod Fitting
