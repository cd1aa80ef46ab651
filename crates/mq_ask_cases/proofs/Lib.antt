pub mod WayLemmas
pub mod RowLemmas
pub mod PartLemmas
pub mod ClientLemmas
pub mod PlaceholderLemmas
