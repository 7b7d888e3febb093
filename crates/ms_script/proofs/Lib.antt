pub mod ReadingLemmas
mod NumberLemmas
mod ScriptLemmas
mod SizeLemmas
