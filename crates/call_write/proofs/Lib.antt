pub mod Records
pub mod Held
pub mod Answered
