pub mod LintLemmas
pub mod ObjectLemmas
