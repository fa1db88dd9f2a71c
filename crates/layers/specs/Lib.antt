pub mod Counter
pub mod Hiding
pub mod Parallel
pub mod Counters
pub mod Transitions
pub mod Deciding
pub mod Silencing
pub mod Composing
