pub mod CsvRecords
pub mod FirstRefused
pub mod InsertMistake
pub mod ItemLemmas
pub mod PartsLemmas
pub mod ReceivedLists
