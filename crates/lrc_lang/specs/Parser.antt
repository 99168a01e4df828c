-- The parser's own machine: what it keeps of a text of which some symbols have come, and how the definitions see its values.
-- Nothing here says what a program is: the grammar, the faults and the meaning stand beside this folder and cite none of it.
pub mod Body
pub mod Located
pub mod Marked
pub mod Partial
pub mod Past
pub mod Seen
pub mod SeenBody
pub mod SeenLimits
pub mod SeenParser
pub mod SeenState
pub mod State
pub mod Stops
pub mod View
