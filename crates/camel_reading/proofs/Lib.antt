pub mod EachLemmas
pub mod StepLemmas
