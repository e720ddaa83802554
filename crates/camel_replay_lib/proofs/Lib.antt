pub mod CommandLineLemmas
pub mod LineLemmas
pub mod ReadLemmas
pub mod RoundLemmas
pub mod SegmentLemmas
pub mod SessionTaskLemmas
