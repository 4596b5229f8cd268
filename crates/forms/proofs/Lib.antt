mod Texts
pub mod Words
mod Numbers
mod Sequences
mod Places
mod Registers
pub mod Forms
