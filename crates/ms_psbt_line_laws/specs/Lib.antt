pub mod Psbt
