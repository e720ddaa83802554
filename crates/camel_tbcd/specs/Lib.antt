pub mod Address
pub mod AddressString
pub mod Imsi
