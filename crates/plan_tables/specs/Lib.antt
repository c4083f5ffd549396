pub mod Batches
pub mod Stocks
pub mod Loads
pub mod Units
pub mod Deliveries
pub mod Tables
