-- Codes, colours and painted texts.
pub mod Decimals
pub mod ColorNames
pub mod CodeBytes
pub mod CodeLists
pub mod PaintedTexts
pub mod Painting
