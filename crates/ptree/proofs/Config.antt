-- Configurations and their sources.
pub mod FieldLists
pub mod FaultLists
pub mod Digits
pub mod LastVariables
pub mod ThreeBytes
pub mod NothingSet
pub mod LoadingExamples
