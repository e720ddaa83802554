pub mod Progress
pub mod StoreLemmas
