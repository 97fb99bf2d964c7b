pub mod Strikes
pub mod Offs
pub mod Items
pub mod Mocked
