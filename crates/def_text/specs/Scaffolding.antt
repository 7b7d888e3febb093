-- A device of proofs, which need not be believed: what it answers to a text is what `Spells` and the refusals say of it.
pub mod Reader
