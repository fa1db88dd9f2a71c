pub mod Membership
pub mod Lowest
pub mod Order
pub mod Unions
pub mod Taken
pub mod SetLaws
