mod Keyed
mod Places
mod Numbered
mod Filling
mod Replying
mod Whole
mod Looking
