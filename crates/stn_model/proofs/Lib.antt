pub mod Sums
pub mod Totals
pub mod Fitting
pub mod Small
