pub mod Filters
pub mod Views
pub mod ClientViews
pub mod SubFilters
pub mod Turns
pub mod Edits
pub mod Matches
