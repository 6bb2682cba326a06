-- Values and documents.
pub mod NumberTexts
pub mod ValuePairs
pub mod Converted
pub mod Documents
