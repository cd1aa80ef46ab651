pub mod CompareLemmas
pub mod ChangedLemmas
pub mod WordedLemmas
