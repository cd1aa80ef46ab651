pub mod Who
pub mod ReachAny
pub mod AnyShown
pub mod Refusals
pub mod WhoShown
