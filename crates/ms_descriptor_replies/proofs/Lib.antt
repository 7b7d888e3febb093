mod Joined
mod Words
mod Judged
mod Finding
mod Checked
mod Listed
