pub mod Verdict
pub mod Audited
