pub mod KindedStates
pub mod Laws
