pub mod Faults
pub mod Frames
pub mod Inputs
