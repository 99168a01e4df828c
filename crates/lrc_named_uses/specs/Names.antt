-- The names among the tokens of a text.
use Rattle.std.specs.Prelude.{ℕ, ◌+◌, ◌-◌, Bool, false, List, drop, take}
use Rattle.std.specs.Str.{bytes_eq}
use Rattle.lrc_named_tokens.specs.Token.{Lexeme, Located, name, token}
use Rattle.lrc_named_tree.specs.Ends.{first_of, last_of}
use Rattle.lrc_named_tree.specs.Tree.{Expression}

-- something in a text is the name
abbrev pub is_name : List ℕ → Lexeme → Bool
is_name bytes (token (name own)) = bytes_eq own bytes
is_name bytes _ = false

-- the tokens from the first to the last one
abbrev pub tokens_between : List Located → (first last : ℕ) → List Located
tokens_between tokens first last = take (last + 1 - first) (drop first tokens)

-- the tokens of an expression
abbrev pub tokens_in : List Located → Expression → List Located
tokens_in tokens e = tokens_between tokens (first_of e) (last_of e)
