pub mod Line
pub mod Numbers
pub mod Reading
pub mod Grammar
pub mod Reader
pub mod Said
pub mod TextDefect
