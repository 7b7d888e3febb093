mod WordLemmas
pub mod SpellingLemmas
