pub mod ScriptLemmas
pub mod AclFileLemmas
pub mod FlagLemmas
pub mod ProgramLemmas
pub mod RulesLemmas
