pub mod Files
pub mod ListFile
pub mod Lint
pub mod Test
pub mod Program
