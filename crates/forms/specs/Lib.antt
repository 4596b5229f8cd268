pub mod Numerals
pub mod Spelling
pub mod Scanning
pub mod Reading
