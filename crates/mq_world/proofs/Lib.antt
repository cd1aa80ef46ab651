pub mod BoolLemmas
pub mod ListLemmas
pub mod SameLemmas
pub mod OrderLemmas
pub mod TextKeys
pub mod SortedLemmas
pub mod Splits
mod WorkedScripts
