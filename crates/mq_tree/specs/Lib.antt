pub mod Below
pub mod Entries
pub mod Falls
pub mod Lending
pub mod LendingNode
pub mod NodeCounts
pub mod Nodes
pub mod Trails
