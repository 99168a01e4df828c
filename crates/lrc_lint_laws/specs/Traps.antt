-- What traps where a node comes to a statement: the statement whose token, or one of whose parts, is told.
use Rattle.std.specs.Prelude.{◌≡◌, ◌⊎◌, ◌+◌, ℕ, List, ◌∷◌, Some, if◌then◌else◌, is_some, length, slice_get, take}
use Rattle.std.specs.List.{flat_map}
use Rattle.lrc_program.specs.declared.Program.{Program}
use Rattle.lrc_program.specs.declared.Statement.{Statement}
use Rattle.lrc_program.specs.declared.Statement.TheVariants.{Write}
use Rattle.lrc_program.specs.Statements.{Expression, Statement as Tree}
use Rattle.lrc_lang.specs.Token.{Token}
use Rattle.lrc_trace.specs.declared.act.Cause.{Cause}
use Rattle.lrc_trace.specs.declared.act.Cause.TheVariants.{DivisionByZero, WordOutOfRange}
use Rattle.lrc_exec.specs.Meaning.{Thread, value_in}
use Rattle.lrc_lines.specs.Walks.{Walk}
use Rattle.lrc_lint_warned.specs.declared.places.Scan.TheVariants.{Nodes}
use Rattle.lrc_lint_warned.specs.Inside.{nodes_of, statements_in}
use Rattle.lrc_lint_warned.specs.Places.{places_in}
use Rattle.lrc_lint_laws.specs.Comes.{TrapsAt, block_of_text, statements_of_text}

-- Why the first of these statements traps, an access of a word that there is not: of a write the value is evaluated before, and may
-- divide by zero.
abbrev pub trap_of_first : Thread → List Statement → Cause
trap_of_first thread (Write word value ∷ rest) = if is_some (value_in thread value) then WordOutOfRange else DivisionByZero
trap_of_first thread _ = WordOutOfRange

abbrev pub trap_of_access : Walk → Cause
trap_of_access walk = trap_of_first walk.thread walk.thread.rest

-- A statement of the text begins this many tokens in front of a token, and each node that comes to it traps there.
pub record TrapsBehind (program : Program) (tokens : List Token) (at : ℕ) (cause : Walk → Cause) : Type 0 where
  pub number : ℕ
  pub from : ℕ
  pub statement : Tree
  pub stands : slice_get (statements_of_text program tokens) number ≡ Some (record { at = from; statement = statement })
  pub near : (at ≡ from + 1) ⊎ (at ≡ from + 3)
  pub traps : (nodes : ℕ) → TrapsAt program tokens nodes from cause

-- This is the part at a token: a part of an expression of the statement that begins at another token.
pub record IsPartAt (program : Program) (tokens : List Token) (at : ℕ) (part : Expression) (from : ℕ) : Type 0 where
  pub number : ℕ
  pub statement : Tree
  pub stands : slice_get (statements_of_text program tokens) number ≡ Some (record { at = from; statement = statement })
  pub inside : ℕ
  pub has : slice_get (nodes_of statement) inside ≡ Some part
  pub place : slice_get (places_in Nodes tokens) (length (flat_map nodes_of (take number (statements_in (block_of_text program)))) + inside) ≡ Some at
