pub mod Arrivals
pub mod Counts
pub mod Lists
pub mod Parts
pub mod Refusals
pub mod Singles
