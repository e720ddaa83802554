pub mod Fields
pub mod Item
pub mod Line
pub mod Octets
pub mod Record
pub mod Script
