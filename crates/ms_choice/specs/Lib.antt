pub mod Choice
pub mod Numbers
pub mod Sums
pub mod Marks
pub mod Tally
pub mod Laws
pub mod Kinds
