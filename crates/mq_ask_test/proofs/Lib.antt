pub mod BoundLemmas
pub mod VerdictLemmas
pub mod FileLemmas
pub mod ObjectLemmas
pub mod JunitLemmas
