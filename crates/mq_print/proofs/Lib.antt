pub mod MemberLemmas
pub mod LineLemmas
