mod Ignoring
mod KindKept
mod Without
