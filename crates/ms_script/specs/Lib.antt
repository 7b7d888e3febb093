pub mod Views
pub mod Reads
pub mod SizeReads
pub mod Pushes
