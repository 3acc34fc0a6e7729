pub mod Decimal
pub mod Room
pub mod Writing
pub mod Texts
