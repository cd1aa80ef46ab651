pub mod TextLemmas
pub mod NameLemmas
pub mod RemainderLemmas
mod LeftLemmas
mod OtherLemmas
mod ChoiceLemmas
mod FoundLemmas
