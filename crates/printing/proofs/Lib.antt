pub mod Held
pub mod Hex
pub mod Known
pub mod Members
pub mod Moves
pub mod Refused
pub mod Texts
pub mod Written
