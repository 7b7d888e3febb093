mod Ending
mod Asking
mod Replying
