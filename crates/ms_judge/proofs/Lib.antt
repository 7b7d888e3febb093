mod Lengths
mod Cases
mod Words
