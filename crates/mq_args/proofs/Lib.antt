pub mod ArgumentLemmas
pub mod NumberLemmas
