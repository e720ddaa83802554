pub mod Fields
pub mod Updates
