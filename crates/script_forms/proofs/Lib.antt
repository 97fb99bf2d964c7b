pub mod WordsFound
pub mod FormsFound
