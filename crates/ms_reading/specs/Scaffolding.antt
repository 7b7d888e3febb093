-- What the contracts of private functions speak of: the reader's state as the code keeps it, seen as that of the reader of
-- `ms_decode_laws`. No public clause cites it, so it need not be believed.
pub mod Parts
pub mod States
pub mod Codes
pub mod Settled
pub mod Keys
pub mod Leaves
pub mod Decoding
pub mod Dups
pub mod Spelled
