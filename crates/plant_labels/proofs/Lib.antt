pub mod Days
pub mod Alike
pub mod SameBatches
pub mod SameStocks
pub mod SameProfits
pub mod SamePlans
