-- The parser's own machine for expressions: what it keeps of an expression of which some tokens have come. Nothing here
-- says what an expression is: that is the grammar.
pub mod Link
pub mod Partial
pub mod Run
pub mod Seen
