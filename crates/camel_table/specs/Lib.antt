pub mod Buckets
pub mod ByImsi
pub mod Lending
