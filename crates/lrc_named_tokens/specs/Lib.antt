pub mod Lexemes
pub mod Lexer
pub mod Token
pub mod View
