pub mod Ways
pub mod Deciding
pub mod ChangeRows
pub mod Placeholders
pub mod Clients
