pub mod Numerals
pub mod Answers
pub mod Shown
pub mod Systems
pub mod Trails
pub mod Experiments
