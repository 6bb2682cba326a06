-- which texts are drawings, and what reading one returns
pub mod Reading
-- what could stand in the place of a wrong line
pub mod Expected
-- what options ask for
pub mod Asked
-- the names of pieces, and with which a text is read
pub mod Named
-- what a terminal may get
pub mod Shown
-- what the end of a call tells
pub mod Telling
-- what is left of trees that are changed
pub mod Changing
-- what is drawn of paths
pub mod Listing
-- what the parts of reading paths do
pub mod ListingParts
-- how many levels there are
pub mod Levels
-- merges of two trees
pub mod Merging
-- what the parts of merging do
pub mod MergingParts
-- what is drawn of indented text
pub mod Outlining
-- which node a name means
pub mod Naming
-- which graph is drawn of packages, and of lines of two words
pub mod Depending
-- what the parts of reading them do
pub mod DependingParts
-- which graph a source means
pub mod Meaning
-- what is said of the settings
pub mod Settings
-- what calls write
pub mod Writing
-- documents, their parts and trees
pub mod Documents
-- the words of a call
pub mod Words
