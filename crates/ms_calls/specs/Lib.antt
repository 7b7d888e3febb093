-- What the calls for other languages give.
pub mod Buffers
pub mod Words
pub mod Lines
pub mod Facts
pub mod Reasons
pub mod Items
pub mod TextReply
pub mod Stops
pub mod Version
pub mod Readings
pub mod Asked
pub mod Ran
pub mod Audited
pub mod Demanded
pub mod Curve
