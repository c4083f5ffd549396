pub mod Lists
pub mod Classes
pub mod SmallProfit
pub mod Linear
