-- Tokens without where they lie in memory: a name is the list of its bytes.
use Rattle.std.specs.Prelude.{ℕ, List}
use Rattle.lrc_named_tokens.specs.declared.token.Keyword.{Keyword}
use Rattle.lrc_named_tokens.specs.declared.token.Sign.{Sign}

-- a token of a text; `finish` is the end of the text
pub data Token : Type 0 where
  number : ℕ → Token
  name : List ℕ → Token
  keyword : Keyword → Token
  sign : Sign → Token
  finish : Token

-- what stands next in a text: a token, or what is none
pub data Lexeme : Type 0 where
  token : Token → Lexeme
  bad_byte : Lexeme
  bad_number : Lexeme

-- a place in a text: its line and its column, both counted from 1, and how many bytes of the text stand before it
pub record Place : Type 0 where
  pub line : ℕ
  pub column : ℕ
  pub offset : ℕ

-- what stands in a text, and where its first byte is
pub record Located : Type 0 where
  pub place : Place
  pub lexeme : Lexeme
