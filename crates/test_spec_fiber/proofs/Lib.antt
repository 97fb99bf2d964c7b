mod Operators
mod Blocks
mod Tries
mod Turns
mod ContextEnds
mod SwitchEnds
mod OtherEnds
mod Forms
