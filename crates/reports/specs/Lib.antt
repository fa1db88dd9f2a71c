pub mod Told
pub mod Printed
pub mod Promised
pub mod SystemExamples
