-- What the statements of a core come from, in the order of its text: a statement stands before those of its blocks.
use Rattle.std.specs.Prelude.{ℕ, List, [], ◌∷◌, ◌++◌, map, slice_index}
use Rattle.lrc_named_core.specs.Tree.{Origin, Trap, Statement, assign, read, write, acquire, release, barrier, print, if_else, while_do}
use Rattle.lrc_named_core.specs.Tree.{Block, empty, next}

abbrev mutual
  -- of a statement, and of those of its blocks
  pub origins_in : Statement → List Origin
  origins_in (assign origin name value) = origin ∷ []
  origins_in (read origin name word) = origin ∷ []
  origins_in (write origin word value) = origin ∷ []
  origins_in (acquire origin lock) = origin ∷ []
  origins_in (release origin lock) = origin ∷ []
  origins_in (barrier origin) = origin ∷ []
  origins_in (print origin value) = origin ∷ []
  origins_in (if_else origin condition then otherwise) = origin ∷ (origins_of then ++ origins_of otherwise)
  origins_in (while_do origin condition inside) = origin ∷ origins_of inside

  pub origins_of : Block → List Origin
  origins_of empty = []
  origins_of (next first rest) = origins_in first ++ origins_of rest

-- on which line of the named program's text each lies; `lines` has the line of each token of that text
abbrev pub lines_told : (lines : List ℕ) → List Origin → List ℕ
lines_told lines origins = map (λ (origin : Origin). slice_index lines origin.line) origins

-- what is said of a trap of each
abbrev pub traps_told : List Origin → List Trap
traps_told origins = map (λ (origin : Origin). origin.trap) origins
