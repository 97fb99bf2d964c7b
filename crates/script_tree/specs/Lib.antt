pub mod Fitting
pub mod Fronts
pub mod Growing
pub mod Numbers
pub mod Pieces
pub mod Spelled
pub mod TreeCode
pub mod Views
