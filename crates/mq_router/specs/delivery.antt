-- The proof's words for the copies of a message.
pub mod Summaries
pub mod Copies
pub mod Fates
