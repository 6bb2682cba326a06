-- Graphs, their walks, and graphs expanded once.
pub mod EdgeLists
pub mod Links
pub mod Turned
pub mod Matched
pub mod Walks
pub mod Occurrences
pub mod NodeFlags
pub mod ExpandedRows
pub mod Once
pub mod Firsts
pub mod Sizes
pub mod Places
pub mod Growth
pub mod Rows
pub mod AlongEdges
pub mod Agreement
pub mod OccurrenceExamples
