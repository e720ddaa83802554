pub mod AdmissionCode
pub mod Decision
pub mod Entries
pub mod Store
pub mod Subscriber
pub mod TdpRow
pub mod Update
