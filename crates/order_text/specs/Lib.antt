pub mod Marks
pub mod ConflictText
pub mod ReadConflict
