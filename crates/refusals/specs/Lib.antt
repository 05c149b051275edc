pub mod Refusals
pub mod Spots
