-- The core of a named program as a text, within the limits.
use Rattle.std.specs.Prelude.{◌≡◌, ◌≤◌, ◌<◌, ℕ, None, Some, List, length, map}
use Rattle.lrc_named_tree.specs.Tree.{NamedTree}
use Rattle.lrc_named_names.specs.Names.{Declared}
use Rattle.lrc_named_core.specs.Tree.{Block, Origin}
use Rattle.lrc_named_core.specs.View.{origin_of}
use Rattle.lrc_named_origins.specs.Origins.{origins_of}
use Rattle.lrc_named_held.specs.declared.owns.Own.{Own}
use Rattle.lrc_named_held.specs.Owns.{owns_among}
use Rattle.lrc_named_program.specs.Program.{IsCoreOf}
use Rattle.lrc_named_text.specs.Statements.{core_text}
use Rattle.lrc_named_limits.specs.Limits.{IsFirstOf, IsOverInBlock}
use Rattle.lrc_named_limits.specs.declared.excess.Excess.{Excess}
use Rattle.lrc_named_written.specs.Privates.{privates}
use Rattle.lrc_named_written.specs.declared.written.Written.{Written}
use Rattle.lrc_named_written.specs.declared.written.Written.TheVariants.{Core, Over, TooLong}

-- what of these statements is over a limit, where the program has so many private names
abbrev pub AreOver : (privates : ℕ) → Block → Excess → Type 0
AreOver privates statements x = IsOverInBlock privates 0 statements x

-- the core of a program that declares this and whose tokens stand on these lines is within the limits, and is this text
pub record IsCoreText (declared : List Declared) (lines : List ℕ) (tree : NamedTree) (text : List ℕ) : Type 0 where
  pub words : ℕ
  pub locks : ℕ
  pub statements : Block
  pub translated : IsCoreOf declared tree words locks statements
  pub within : IsFirstOf (AreOver (privates declared tree.statements) statements) None
  pub written : text ≡ core_text words locks declared lines statements
  pub fits : length text ≤ 65536

-- and its statements come from these, and have these names of the translation's own
pub record IsCoreTextFrom (declared : List Declared) (lines : List ℕ) (tree : NamedTree) (text : List ℕ) (origins : List Origin) (owns : List (List Own)) : Type 0 where
  pub is : IsCoreText declared lines tree text
  pub origins_are : origins ≡ origins_of is.statements
  pub owns_are : owns ≡ owns_among is.statements

-- this is the first of its core over a limit
pub record IsCoreOver (declared : List Declared) (tree : NamedTree) (x : Excess) : Type 0 where
  pub words : ℕ
  pub locks : ℕ
  pub statements : Block
  pub translated : IsCoreOf declared tree words locks statements
  pub first : IsFirstOf (AreOver (privates declared tree.statements) statements) (Some x)

-- nothing of it is, but its text is too long
pub record IsCoreLong (declared : List Declared) (lines : List ℕ) (tree : NamedTree) : Type 0 where
  pub words : ℕ
  pub locks : ℕ
  pub statements : Block
  pub translated : IsCoreOf declared tree words locks statements
  pub within : IsFirstOf (AreOver (privates declared tree.statements) statements) None
  pub long : 65536 < length (core_text words locks declared lines statements)

abbrev pub IsWritten : List Declared → (lines : List ℕ) → NamedTree → Written → Type 0
IsWritten declared lines tree (Core text origins owns) =
    IsCoreTextFrom declared lines tree text.items (map origin_of origins.items) (map (λ one. one.items) owns.items)
IsWritten declared lines tree (Over x) = IsCoreOver declared tree x
IsWritten declared lines tree TooLong = IsCoreLong declared lines tree

-- ---- on the way

-- a text, with what these statements come from and their names, unless it is too long
abbrev pub IsTextOf : (text : List ℕ) → Block → Written → Type 0
IsTextOf text statements (Core found origins owns) = (found.items ≡ text) × (length text ≤ 65536) × (map origin_of origins.items ≡ origins_of statements)
    × (map (λ one. one.items) owns.items ≡ owns_among statements)
IsTextOf text statements (Over x) = ⊥
IsTextOf text statements TooLong = 65536 < length text

-- what a core with these words, locks and statements comes to, where the program has so many private names
abbrev pub ComesTo : (privates words locks : ℕ) → List Declared → (lines : List ℕ) → Block → Written → Type 0
ComesTo privates words locks declared lines statements (Over x) = IsFirstOf (AreOver privates statements) (Some x)
ComesTo privates words locks declared lines statements (Core text origins owns) =
    IsFirstOf (AreOver privates statements) None × IsTextOf (core_text words locks declared lines statements) statements (Core text origins owns)
ComesTo privates words locks declared lines statements TooLong =
    IsFirstOf (AreOver privates statements) None × IsTextOf (core_text words locks declared lines statements) statements TooLong
