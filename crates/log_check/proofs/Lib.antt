pub mod Items
pub mod Judging
pub mod OwnLog
pub mod Taking
pub mod There
