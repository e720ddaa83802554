pub mod CamelFields
pub mod InsertFields
pub mod Inserts
pub mod Removals
pub mod Updates
