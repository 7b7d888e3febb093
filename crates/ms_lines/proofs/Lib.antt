pub mod FeedLemmas
pub mod ThroughLemmas
pub mod AnswerLemmas
pub mod AskedLemmas
pub mod TurnLemmas
pub mod StreamLemmas
pub mod MemoryLemmas
pub mod PlainLemmas
