pub mod Rising
pub mod Handed
pub mod Short
pub mod Laws
pub mod Example
