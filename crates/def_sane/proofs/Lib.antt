pub mod TheLimits
pub mod First
pub mod FirstMix
pub mod FirstRepeat
pub mod Repeating
pub mod Meanings
