pub mod Answers
pub mod Files
pub mod Calls
pub mod Promises
pub mod Kept
