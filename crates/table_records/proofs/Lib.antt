pub mod ByteRest
pub mod SoundHeader
pub mod FirstOne
pub mod Seen
pub mod Walk
pub mod Thirteen
pub mod Steps
pub mod OneAnswer
