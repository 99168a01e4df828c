-- Which token a statement begins with, and which token is that of a part of an expression.
use Rattle.std.specs.Prelude.{ℕ, ◌+◌, not, Bool, true, false, List, [], ◌∷◌, ◌++◌, drop, if◌then◌else◌, map}
use Rattle.std.specs.List.{flat_map, zip}
use Rattle.lrc_lang.specs.declared.token.Keyword.TheVariants as keywords
use Rattle.lrc_lang.specs.declared.token.Sign.{Sign}
use Rattle.lrc_lang.specs.declared.token.Sign.TheVariants as signs
use Rattle.lrc_program.specs.Statements.{Expression, Statement, Block}
use Rattle.lrc_lang.specs.Token.{Token, number, name, keyword, sign, finish}
use Rattle.lrc_lint_warned.specs.declared.places.Scan.{Scan}
use Rattle.lrc_lint_warned.specs.declared.places.Scan.TheVariants.{Statements, Nodes}
use Rattle.lrc_lint_warned.specs.Found.{StatementAt, NodeAt}
use Rattle.lrc_lint_warned.specs.Inside.{nodes_of, statements_in}

-- behind this a statement may begin
abbrev pub is_seam : Token → Bool
is_seam (sign signs.Semicolon) = true
is_seam (sign signs.OpenBrace) = true
is_seam (sign signs.CloseBrace) = true
is_seam _ = false

-- this begins a statement: behind a seam each token but `}`, `else` and the end
abbrev pub begins_statement : (behind_seam : Bool) → Token → Bool
begins_statement behind_seam finish = false
begins_statement behind_seam (keyword keywords.Else) = false
begins_statement behind_seam (sign signs.CloseBrace) = false
begins_statement behind_seam _ = behind_seam

-- a sign between two operands
abbrev pub joins : Sign → Bool
joins signs.Semicolon = false
joins signs.Assign = false
joins signs.OpenBracket = false
joins signs.CloseBracket = false
joins signs.OpenBrace = false
joins signs.CloseBrace = false
joins signs.OpenParenthesis = false
joins signs.CloseParenthesis = false
joins _ = true

-- this is an operand, or a sign between two; a name that begins a statement is none
abbrev pub is_node : (behind_seam : Bool) → Token → Bool
is_node behind_seam (number n) = true
is_node behind_seam (name bytes) = not behind_seam
is_node behind_seam (keyword keywords.Me) = true
is_node behind_seam (keyword keywords.Nodes) = true
is_node behind_seam (sign mark) = joins mark
is_node behind_seam _ = false

abbrev pub is_wanted : Scan → Bool → Token → Bool
is_wanted Statements = begins_statement
is_wanted Nodes = is_node

-- the places of tokens of which the first has this place
abbrev pub places_from : Scan → ℕ → Bool → List Token → List ℕ
places_from scan at behind_seam [] = []
places_from scan at behind_seam (t ∷ more) =
    (if is_wanted scan behind_seam t then at ∷ [] else []) ++ places_from scan (at + 1) (is_seam t) more

-- the places of a text's tokens behind `words N; locks N;`
abbrev pub places_in : Scan → List Token → List ℕ
places_in scan tokens = places_from scan 6 true (drop 6 tokens)

-- The statements of a program are in the order of the text, and so are the parts of their expressions: the first statement stands
-- at the first token that begins one, and so on.
abbrev pub statement_at : ℕ × Statement → StatementAt
statement_at both = record { at = both.0; statement = both.1 }

abbrev pub node_at : ℕ × Expression → NodeAt
node_at both = record { at = both.0; node = both.1 }

abbrev pub statements_at : List Token → Block → List StatementAt
statements_at tokens b = map statement_at (zip (places_in Statements tokens) (statements_in b))

abbrev pub nodes_at : List Token → Block → List NodeAt
nodes_at tokens b = map node_at (zip (places_in Nodes tokens) (flat_map nodes_of (statements_in b)))
