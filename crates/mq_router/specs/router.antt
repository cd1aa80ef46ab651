-- The proof's words for the router.
pub mod Effects
pub mod Views
