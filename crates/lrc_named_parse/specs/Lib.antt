-- Counts and Faults say what the first fault of a text is. The others are the parser's own machine: what it keeps of a
-- program of which some tokens have come. Nothing there says what a program is: that is the grammar.
pub mod Counts
pub mod Faults
pub mod SeenLimits
pub mod SeenParser
pub mod SeenState
pub mod State
