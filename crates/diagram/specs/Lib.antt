pub mod Plain
pub mod Shows
pub mod Asked
pub mod Operands
pub mod Remembered
pub mod Making
