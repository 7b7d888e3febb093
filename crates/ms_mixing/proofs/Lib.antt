mod Mixed
mod Unions
mod Entries
mod Repeated
