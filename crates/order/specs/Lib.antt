pub mod Listing
pub mod Renaming
pub mod Facts
pub mod Below
pub mod Layers
