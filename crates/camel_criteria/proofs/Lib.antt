pub mod MeansLemmas
