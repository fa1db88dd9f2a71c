pub mod Placing
pub mod Counters
pub mod CardReplies
pub mod CallReplies
