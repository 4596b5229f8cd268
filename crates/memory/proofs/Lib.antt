pub mod FlatStores
pub mod PackedStores
pub mod Stores
