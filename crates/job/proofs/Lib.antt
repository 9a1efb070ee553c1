mod Splits
pub mod Joined
mod Taking
