pub mod ReachLemmas
pub mod ScriptLemmas
