pub mod QuestionLemmas
pub mod AnswerLemmas
pub mod ExplainedLemmas
