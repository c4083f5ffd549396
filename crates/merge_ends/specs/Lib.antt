pub mod MergedClaims
pub mod laws
