pub mod Pairs
pub mod Written
pub mod Example
