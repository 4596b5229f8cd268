pub mod Counting
pub mod Layouts
