-- What the definitions of sum_slots say, as laws that do not compute it.
pub mod Shown
