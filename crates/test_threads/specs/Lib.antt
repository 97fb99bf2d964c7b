pub mod Racing
