pub mod Statuses
pub mod Lists
pub mod Failures
pub mod Notes
pub mod Words
pub mod Objects
