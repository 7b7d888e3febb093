mod Counting
mod Room
