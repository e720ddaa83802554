pub mod Event
pub mod Fields
pub mod Update
