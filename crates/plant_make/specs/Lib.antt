pub mod Entries
pub mod Numbers
pub mod Printed
pub mod Meaning
pub mod Made
