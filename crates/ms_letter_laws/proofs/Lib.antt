pub mod LettersZonu
pub mod MissedHashes
pub mod LettersDsfe
pub mod InheritedByNodes
pub mod NodeLetters
