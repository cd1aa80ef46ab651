pub mod Lint
pub mod Objects
