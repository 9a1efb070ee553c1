pub mod Keeping
pub mod Questions
pub mod Advancing
pub mod Loading
pub mod Settled
pub mod Settling
