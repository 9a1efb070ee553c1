pub mod Checks
pub mod Mapping
