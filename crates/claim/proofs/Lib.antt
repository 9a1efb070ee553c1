mod Lexing
mod Spellings
mod Decimals
pub mod Runs
mod Each
mod Prefixes
mod Depths
mod Readings
pub mod Lengths
mod Places
pub mod Outcomes
mod Tried
mod Trees
mod Refusals
pub mod Exactly
pub mod Steps
mod Whole
pub mod Stacks
