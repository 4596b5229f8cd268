pub mod Control
pub mod Counter
pub mod Laws
pub mod Names
pub mod Updates
