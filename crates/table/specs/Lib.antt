pub mod Records
pub mod Tables
pub mod Shows
pub mod Identity
pub mod Hash
pub mod Store
