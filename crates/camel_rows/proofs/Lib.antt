pub mod EventLemmas
pub mod RowLemmas
pub mod StandardLemmas
pub mod StoreLemmas
pub mod UpdateLemmas
