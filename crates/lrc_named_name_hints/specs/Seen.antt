-- What a hint on a fault of a name goes by.
use Rattle.std.specs.Prelude.{ℕ, Option, Some, None, List, map, slice_get}
use Rattle.lrc_named_tokens.specs.Token.{name, Lexeme, token, Located}
use Rattle.lrc_named_tokens.specs.View.{located_of}
use Rattle.lrc_named_tree.specs.Tree.{Named}
use Rattle.lrc_named_tree.specs.View.{named_of}
use Rattle.lrc_named_entries.specs.Entry.{Entry}
use Rattle.lrc_named_entries.specs.View.{entry_seen}
use Rattle.lrc_named_name_hints.specs.declared.seen.Seen as code_seen

-- the tokens of the text, what is declared in it, the parameters of the function that the faulty token belongs to, the token of the first
-- `nodes` declaration, and the faulty token
pub record Seen : Type 0 where
  pub tokens : List Located
  pub entries : List Entry
  pub parameters : List Named
  pub counted : Option ℕ
  pub at : ℕ

-- the same, of the code's
abbrev pub seen_of : code_seen.Seen → Seen
seen_of seen = record {
  tokens = map located_of seen.tokens.now;
  entries = map entry_seen seen.entries.now;
  parameters = map named_of seen.parameters.now;
  counted = seen.counted;
  at = seen.at;
}

-- the name that this is
abbrev pub name_in : Lexeme → Option (List ℕ)
name_in (token (name bytes)) = Some bytes
name_in other = None

abbrev pub name_of : Option Located → Option (List ℕ)
name_of None = None
name_of (Some found) = name_in found.lexeme

-- the line of a token
abbrev pub line_in : Option Located → ℕ
line_in None = 0
line_in (Some found) = found.place.line

-- the name at fault, where the token at fault is a name
abbrev pub name_at : Seen → Option (List ℕ)
name_at s = name_of (slice_get s.tokens s.at)

abbrev pub line_of : Seen → ℕ → ℕ
line_of s at = line_in (slice_get s.tokens at)
