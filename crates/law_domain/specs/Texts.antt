pub mod Domains
pub mod DomainLaws
