mod Charges
mod Ends
mod Orders
mod Periods
mod Ranges
