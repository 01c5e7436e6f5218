pub mod Digits
pub mod SeparatedRuns
pub mod Meanings
