pub mod Served
pub mod Calling
pub mod Progress
