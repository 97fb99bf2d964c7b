pub mod FeatureForms
pub mod Laws
