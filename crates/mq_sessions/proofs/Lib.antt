pub mod SessionLemmas
pub mod ReachedLemmas
pub mod ResumeLemmas
pub mod QueueLemmas
pub mod EndLemmas
pub mod TakenLemmas
pub mod EntryLemmas
mod HeapLemmas
pub mod CountLemmas
pub mod IndexLemmas
mod SweepLemmas
mod WalkLemmas
mod PendingLemmas
