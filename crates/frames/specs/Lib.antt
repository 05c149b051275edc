pub mod Lawful
pub mod Frames
pub mod Sound
pub mod Delays
pub mod Bits
pub mod Refusing
