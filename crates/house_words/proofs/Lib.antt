pub mod Decimal
pub mod Writing
pub mod Texts
