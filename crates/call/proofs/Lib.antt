pub mod Asked
pub mod WayFew
pub mod Found
pub mod FilesSmall
