mod Bits
mod Calls
pub mod Lists
mod Permute
pub mod Rename
mod Seen
