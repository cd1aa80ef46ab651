pub mod AskedLemmas
pub mod MadeLemmas
pub mod NamedLemmas
pub mod ListingLemmas
pub mod FaultLemmas
pub mod RowLemmas
pub mod ExtentLemmas
pub mod ClaimLemmas
