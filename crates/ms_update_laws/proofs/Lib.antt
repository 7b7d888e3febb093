mod Own
mod Same
mod Sound
mod Again
mod Whole
