pub mod EachLemmas
pub mod FewLemmas
pub mod ImsiLemmas
pub mod PointLemmas
