pub mod Output
pub mod Store
