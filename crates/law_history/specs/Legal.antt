pub mod LegalRuns
pub mod LongerParts
