pub mod Asking
pub mod Answered
