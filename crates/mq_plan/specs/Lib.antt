pub mod Sides
pub mod Pairs
pub mod Lines
pub mod Names
pub mod Rules
pub mod Views
