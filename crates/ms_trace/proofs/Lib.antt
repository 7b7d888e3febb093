mod Briefly
mod Lines
mod Loop
mod Listed
