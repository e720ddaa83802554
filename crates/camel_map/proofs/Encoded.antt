pub mod Imsis
pub mod Parts
pub mod Series
pub mod Values
