-- On which lines a text's statements begin. A place counts the tokens in front of it.
use Rattle.std.specs.Prelude.{◌≡◌, ◌+◌, ◌≤◌, ℕ, List, [], ◌∷◌, drop, map, Some, slice_get}
use Rattle.lrc_program.specs.declared.Program.{Program}
use Rattle.lrc_program.specs.declared.Statement.{Statement}
use Rattle.lrc_lang.specs.Grammar.{IsStatement}
use Rattle.lrc_lang.specs.Lexemes.{Lexes}
use Rattle.lrc_lang.specs.Symbol.{Symbol, finish, symbols}
use Rattle.lrc_lang.specs.Token.{Token, token, Placed}
use Rattle.lrc_program.specs.Tree.{statement_of}
use Rattle.lrc_lines.specs.Places.{in_order}

-- From this place on the tokens are those of the statement, and then a rest; and the first of them begins on this line.
pub record BeginsOn (lexemes : List Placed) (tokens : List Token) (statement : Statement) (place line : ℕ) : Type 0 where
  pub rest : List Symbol
  pub spells : IsStatement (statement_of statement) (drop place (symbols tokens)) rest
  pub on : slice_get (map (λ found. found.line) lexemes) place ≡ Some line

-- From a place on, these statements begin one behind the other, and these are the lines on which they begin.
pub data BeginInTurn (lexemes : List Placed) (tokens : List Token) : (from : ℕ) → List Statement → List ℕ → Type 0 where
  -- a statement begins, and the others behind its first token,
  next : {from place line : ℕ} {first : Statement} {more : List Statement} {lines : List ℕ} → from ≤ place
      → BeginsOn lexemes tokens first place line → BeginInTurn lexemes tokens (place + 1) more lines
      → BeginInTurn lexemes tokens from (first ∷ more) (line ∷ lines)
  -- and at last comes the text's end, on its line
  end : {from place line : ℕ} → from ≤ place → drop place (symbols tokens) ≡ finish ∷ []
      → slice_get (map (λ found. found.line) lexemes) place ≡ Some line → BeginInTurn lexemes tokens from [] (line ∷ [])

-- The program's statements, in the order of the text, begin on these lines of the text; the last line is that of the text's end.
pub record BeginOnLines (text : List ℕ) (program : Program) (lines : List ℕ) : Type 0 where
  pub lexemes : List Placed
  pub lexed : Lexes 1 text lexemes
  pub tokens : List Token
  pub are_tokens : map (λ found. found.lexeme) lexemes ≡ map token tokens
  pub in_turn : BeginInTurn lexemes tokens 0 (in_order program.statements.items) lines
