pub mod Copies
pub mod Log
pub mod Place
pub mod Reader
pub mod Restoring
pub mod Slot
pub mod WriterEnd
