mod Joined
mod Placed
