-- What the contracts of private functions speak of, and what the code keeps of an input. No public clause cites it, so it need not be
-- believed.
pub mod Utxos
pub mod Lengths
pub mod Kept
