pub mod Faults
pub mod Calls
pub mod Uses
pub mod Says
pub mod Fair
pub mod Promise
pub mod Determined
pub mod Possible
