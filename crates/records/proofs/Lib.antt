pub mod Contents
mod Chains
mod Order
