pub mod Faults
pub mod Traces
pub mod Texts
pub mod Outcomes
pub mod Reports
pub mod Searches
