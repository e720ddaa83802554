pub mod AddressingLemmas
pub mod BucketLemmas
pub mod BucketsLemmas
pub mod OnceLemmas
pub mod OrderLemmas
pub mod SegmentsLemmas
pub mod TableLemmas
pub mod TagsLemmas
