pub mod SignedNumbers
pub mod NumberTexts
pub mod LineTexts
pub mod SaidLines
pub mod LineBytes
pub mod Sides
pub mod FileParts
