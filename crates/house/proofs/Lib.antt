pub mod Parts
pub mod Texts
pub mod Laws
