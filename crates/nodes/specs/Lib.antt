pub mod Graph
pub mod Price
pub mod Growth
pub mod Shows
pub mod Facts
pub mod Identity
pub mod Hash
