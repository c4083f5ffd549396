pub mod BegunLog
pub mod Both
pub mod EmptyLog
pub mod EmptySearch
pub mod LogsLeft
