pub mod Sights
pub mod Alike
pub mod AlikeCalls
pub mod AlikeWork
pub mod Laws
