pub mod Listed
pub mod AllRead
