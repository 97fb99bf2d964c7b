mod Loads
mod Working
mod Manning
mod Relieving
mod Submitting
mod Finishing
