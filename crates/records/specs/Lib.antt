pub mod Chains
pub mod Contents
pub mod Orderly
pub mod Placing
