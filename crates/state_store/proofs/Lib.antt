pub mod LastOfEach
pub mod ReplayLemmas
pub mod SlotLemmas
