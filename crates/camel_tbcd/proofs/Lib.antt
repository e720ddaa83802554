pub mod DifferenceLemmas
pub mod DigitLemmas
pub mod FillerLemmas
pub mod ImsiLemmas
pub mod ProfileLemmas
pub mod RoomLemmas
