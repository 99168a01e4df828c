-- Tokens, and where they stand.
use Rattle.std.specs.Prelude.{ℕ, List, length, map}
use Rattle.std.specs.List.{range_with_len}
use Rattle.lrc_lang.specs.Token.{Token}
use Rattle.lrc_lint_warned.specs.Found.{StatementAt}
use Rattle.lrc_lint_warnings.specs.declared.warning.Spot.{Spot}
use Rattle.lrc_named_tokens.specs.Token.{Located}

-- a place that says which token stands there: its number is the column
abbrev pub number_spot : ℕ → Spot
number_spot number = record { line = 0; column = number }

abbrev pub numbered : List Token → List Spot
numbered tokens = map number_spot (range_with_len 0 (length tokens))

-- with which token each of these statements begins
abbrev pub begins_in : List StatementAt → List ℕ
begins_in statements = map (λ (s : StatementAt). s.at) statements

-- the line and the column of a token of a named program, and of each
abbrev pub spot_of : Located → Spot
spot_of found = record { line = found.place.line; column = found.place.column }

abbrev pub spots_of : List Located → List Spot
spots_of tokens = map spot_of tokens
