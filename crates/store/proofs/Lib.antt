pub mod Bit
pub mod Same
pub mod Making
pub mod Word
pub mod Replies
pub mod Fits
