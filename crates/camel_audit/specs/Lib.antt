pub mod Audit
pub mod Serves
