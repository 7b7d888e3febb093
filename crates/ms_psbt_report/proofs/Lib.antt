mod Sums
mod Lists
pub mod Walked
mod Judged
mod Verified
mod Asked
pub mod AllTold
pub mod Spends
pub mod Loops
mod LastLines
mod KindLines
mod InputLines
mod Validity
mod Digits
mod Joined
mod Told
mod Writing
mod Extracted
mod Answering
