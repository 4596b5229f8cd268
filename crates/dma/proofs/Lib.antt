pub mod Changes
pub mod Contests
pub mod ControlSets
pub mod Listeners
pub mod MaskBits
pub mod SoundRows
pub mod Tables
pub mod Turns
