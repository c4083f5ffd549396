pub mod Rounding
pub mod Groups
pub mod Derived
pub mod Shown
pub mod Law
pub mod Line
pub mod Table
