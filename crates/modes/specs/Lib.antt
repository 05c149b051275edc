pub mod Modes
pub mod Fields
pub mod Plan
pub mod Places
pub mod Slots
