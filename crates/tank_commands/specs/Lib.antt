pub mod Estimating
