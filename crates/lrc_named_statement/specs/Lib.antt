-- The parser's own machine for statements: what it keeps of statements of which some tokens have come. Nothing here says
-- what a statement is: that is the grammar.
pub mod Body
pub mod Seen
