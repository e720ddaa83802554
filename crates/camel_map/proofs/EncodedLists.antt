pub mod Csis
pub mod Entries
