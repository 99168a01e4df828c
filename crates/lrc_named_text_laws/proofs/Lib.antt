pub mod Faultless
pub mod Lexing
pub mod Numbering
pub mod Parsing
pub mod Reading
pub mod Texts
pub mod Tokens
pub mod Within
