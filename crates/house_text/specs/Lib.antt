pub mod Lines
pub mod Handed
pub mod Room
pub mod Laws
