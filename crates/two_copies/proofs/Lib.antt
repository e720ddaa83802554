pub mod LogLemmas
pub mod PlacesLemmas
pub mod Plays
pub mod Steps
