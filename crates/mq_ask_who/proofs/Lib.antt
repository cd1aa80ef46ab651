pub mod WhoLemmas
pub mod WhoFailureLemmas
pub mod ReachAnyLemmas
pub mod RefusalLemmas
pub mod WhoShownLemmas
