pub mod Faults
pub mod Notices
pub mod Checks
pub mod Stated
pub mod Results
