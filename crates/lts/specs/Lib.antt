pub mod Sets
pub mod System
pub mod Traces
pub mod Order
pub mod Unions
pub mod SetTypes
