pub mod Elements
pub mod Records
pub mod Updates
