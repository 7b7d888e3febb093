-- What asks for lines, and how such a call ends.
pub mod Asking
pub mod Frame
