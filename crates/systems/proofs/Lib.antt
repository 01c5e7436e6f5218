pub mod Filling
pub mod Rows
pub mod Machines
pub mod Chains
pub mod TakenUps
