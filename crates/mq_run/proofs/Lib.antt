pub mod WrittenLemmas
pub mod OutputLemmas
pub mod RunLemmas
pub mod StepLemmas
pub mod HeadlineLemmas
pub mod FrontLemmas
