mod Joined
mod KeyLines
