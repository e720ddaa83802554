pub mod Arrival
pub mod Csi
pub mod Encoding
pub mod Reading
pub mod Update
