pub mod Border
pub mod Flat
pub mod Meaning
pub mod Packed
pub mod Refusals
