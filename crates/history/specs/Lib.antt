pub mod Answers
pub mod Open
pub mod Returns
pub mod Rules
pub mod Devices
