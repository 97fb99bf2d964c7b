mod Counting
mod Locking
mod Using
