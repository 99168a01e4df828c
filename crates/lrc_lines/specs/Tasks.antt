-- Statements still to do, with their lines. Lines are a list in the order of the text: a statement's line, and then those
-- of the statements of its blocks.
use Rattle.std.specs.Prelude.{ℕ, Bool, List, [], ◌∷◌, ◌++◌, drop, if◌then◌else◌, slice_index_or}
use Rattle.lrc_program.specs.declared.Statement.{Statement, Row_of-Statement, end_of-Statement, more_of-Statement}
use Rattle.lrc_program.specs.declared.Statement.TheVariants.{If', While'}
use Rattle.lrc_exec.specs.Meaning.{block}

-- a statement still to do, and the lines from its own one on
pub record Task : Type 0 where
  pub statement : Statement
  pub lines : List ℕ

-- the lines that are left behind those of a statement, and behind those of the statements of a block
abbrev mutual
  pub behind : Statement → List ℕ → List ℕ
  behind (If' condition p first q second) lines = behind_block second (behind_block first (drop 1 lines))
  behind (While' condition p body) lines = behind_block body (drop 1 lines)
  behind _ lines = drop 1 lines

  pub behind_block : {m : _} → Row_of-Statement m → List ℕ → List ℕ
  behind_block end_of-Statement lines = lines
  behind_block (more_of-Statement first more) lines = behind_block more (behind first lines)

-- statements whose lines these are
abbrev pub tasks : List Statement → List ℕ → List Task
tasks [] lines = []
tasks (first ∷ more) lines = record { statement = first; lines = lines } ∷ tasks more (behind first lines)

-- what is still to do once a statement with these lines is done, or its condition was evaluated, where `rest` comes after it
abbrev pub beyond : (holds : Bool) → Statement → List ℕ → List Task → List Task
beyond holds (If' condition p first q second) lines rest =
    (if holds then tasks (block first) (drop 1 lines) else tasks (block second) (behind_block first (drop 1 lines))) ++ rest
beyond holds (While' condition p body) lines rest =
    if holds then tasks (block body) (drop 1 lines) ++ record { statement = While' condition p body; lines = lines } ∷ rest else rest
beyond holds _ lines rest = rest

-- the same, of the first that is still to do
abbrev pub passed : (holds : Bool) → List Task → List Task
passed holds [] = []
passed holds (first ∷ rest) = beyond holds first.statement first.lines rest

-- the line of what comes next; `end` is the line of the text's end
abbrev pub next_line : (end : ℕ) → List Task → ℕ
next_line end [] = end
next_line end (first ∷ rest) = slice_index_or first.lines 0 end
