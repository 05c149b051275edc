pub mod Modes
pub mod Listed
pub mod Going
