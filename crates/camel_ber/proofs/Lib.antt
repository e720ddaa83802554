pub mod ContentsLemmas
pub mod EndLemmas
pub mod IdentifierLemmas
pub mod ListLemmas
pub mod NestedLemmas
pub mod SpelledLength
pub mod StepLemmas
