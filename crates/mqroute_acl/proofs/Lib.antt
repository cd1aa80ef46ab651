pub mod FilesLemmas
pub mod ListFileLemmas
pub mod ProgramLemmas
pub mod TestLemmas
