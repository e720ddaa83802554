pub mod ChainLemmas
pub mod OperationLemmas
pub mod RuleLemmas
pub mod SessionLemmas
pub mod StoreLemmas
