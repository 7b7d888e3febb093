-- A device of proofs, which need not be believed: a reader of instructions from the last one back, which finds what `IsReading` says.
pub mod Want
pub mod Frame
pub mod Reader
