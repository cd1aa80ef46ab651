pub mod Why
pub mod Questions
pub mod Texts
pub mod Answers
pub mod Explained
