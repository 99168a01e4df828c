-- Locks that are held, or are not, wherever a statement is reached.
use Rattle.std.specs.Prelude.{ℕ, ◌&&◌, Bool, true, false, Option, List, [], ◌∷◌, ◌++◌, if◌then◌else◌, option_map, position, slice_index_or}
use Rattle.std.specs.List.{flat_map, list_any, range_with_len}
use Rattle.lrc_text.specs.Each.{each}
use Rattle.lrc_program.specs.Statements.{Statement, if_else, while_do, Block, empty, next}
use Rattle.lrc_lint_warned.specs.declared.found.Found.{Found}
use Rattle.lrc_lint_warned.specs.declared.found.Kind.{Kind}
use Rattle.lrc_lint_warned.specs.declared.found.Kind.TheVariants.{HeldAlready, NotHeld, HeldAtBarrier}
use Rattle.lrc_lint_warned.specs.declared.held.Side.{Side}
use Rattle.lrc_lint_warned.specs.declared.held.Side.TheVariants.{Acquired, Released}
use Rattle.lrc_lint_warned.specs.Blocks.{is_barrier}
use Rattle.lrc_lint_warned.specs.Found.{StatementAt, found_at}
use Rattle.lrc_lint_warned.specs.Inside.{within, statements_in}
use Rattle.lrc_lint_warned.specs.Locks.{acquires, releases, may_acquire, may_release}

-- What stands in the text in front of a statement, by the lists of statements that it stands in.
pub data Step : Type 0 where
  -- This statement stands before it in its list, or in a list around it.
  passes : Statement → Step
  -- It stands in the else's block of an `if` with this first block.
  beside : Block → Step
  -- It stands in a `while` with this block.
  enters : Block → Step

-- the steps to a statement, the last one first
abbrev pub Path : Type 0
Path = List Step

-- the steps to each statement of a block, and of the blocks in a statement, in the order of the text
abbrev mutual
  pub paths_within : Path → Statement → List Path
  paths_within path (if_else condition first otherwise) = paths path first ++ paths (beside first ∷ path) otherwise
  paths_within path (while_do condition inside) = paths (enters inside ∷ path) inside
  paths_within path _ = []

  pub paths : Path → Block → List Path
  paths path empty = []
  paths path (next first others) = path ∷ (paths_within path first ++ paths (passes first ∷ path) others)

-- the statements of a step, at any depth
abbrev pub statements_of : Step → List Statement
statements_of (passes s) = s ∷ within s
statements_of (beside b) = statements_in b
statements_of (enters b) = statements_in b

-- an acquire, or a release, of this lock as a constant
abbrev pub takes : Side → ℕ → Statement → Bool
takes Acquired lock s = acquires lock s
takes Released lock s = releases lock s

-- a release, or an acquire, of this lock or of what is no constant
abbrev pub undoes : Side → ℕ → Statement → Bool
undoes Acquired lock s = may_release lock s
undoes Released lock s = may_acquire lock s

-- only a statement that is passed, and none in its blocks, stands in a list around
abbrev pub step_takes : Side → ℕ → Step → Bool
step_takes side lock (passes s) = takes side lock s
step_takes side lock _ = false

abbrev pub step_undoes : Side → ℕ → Step → Bool
step_undoes side lock step = list_any (undoes side lock) (statements_of step)

-- the beginning of the text counts as a release of every lock
abbrev pub at_start : Side → Bool
at_start Acquired = false
at_start Released = true

-- Whether a statement stands under an acquire, or a release, of this lock: the last step that is one, or that may undo one, is one.
abbrev pub is_under : Side → ℕ → Path → Bool
is_under side lock [] = at_start side
is_under side lock (step ∷ path) =
    if step_takes side lock step then true else (if step_undoes side lock step then false else is_under side lock path)

abbrev pub found_if : Bool → ℕ → Kind → List Found
found_if holds at kind = if holds then record { at = at; kind = kind } ∷ [] else []

-- an acquire of a lock under an acquire of it
abbrev pub held_already_at : ℕ → StatementAt → Path → List Found
held_already_at lock s path = found_if (acquires lock s.statement && is_under Acquired lock path) s.at (HeldAlready lock)

-- a release of a lock under a release of it
abbrev pub not_held_at : ℕ → StatementAt → Path → List Found
not_held_at lock s path = found_if (releases lock s.statement && is_under Released lock path) s.at (NotHeld lock)

-- the least lock under an acquire of which a statement stands
abbrev pub least_held : ℕ → Path → Option ℕ
least_held locks path = position (λ lock. is_under Acquired lock path) (range_with_len 0 locks)

-- a barrier under an acquire of some lock
abbrev pub held_at_barrier_at : ℕ → StatementAt → Path → List Found
held_at_barrier_at locks s path = if is_barrier s.statement then found_at s.at (option_map HeldAtBarrier (least_held locks path)) else []

-- what is said of each statement with its path
abbrev pub with_path : (StatementAt → Path → List Found) → List StatementAt → List Path → List Found
with_path at statements all = each (λ i s. at s (slice_index_or all i [])) statements

-- of all locks that there are
abbrev pub held_already : ℕ → List StatementAt → List Path → List Found
held_already locks statements all = flat_map (λ lock. with_path (held_already_at lock) statements all) (range_with_len 0 locks)

abbrev pub not_held : ℕ → List StatementAt → List Path → List Found
not_held locks statements all = flat_map (λ lock. with_path (not_held_at lock) statements all) (range_with_len 0 locks)

abbrev pub held_at_barrier : ℕ → List StatementAt → List Path → List Found
held_at_barrier locks = with_path (held_at_barrier_at locks)

-- ---- the same by tables, which have for each statement whether it stands under an acquire or a release

abbrev pub acquire_by : ℕ → List Bool → ℕ → StatementAt → List Found
acquire_by lock under i s = found_if (acquires lock s.statement && slice_index_or under i false) s.at (HeldAlready lock)

abbrev pub release_by : ℕ → List Bool → ℕ → StatementAt → List Found
release_by lock under i s = found_if (releases lock s.statement && slice_index_or under i true) s.at (NotHeld lock)

abbrev pub barrier_by : List (List Bool) → ℕ → StatementAt → List Found
barrier_by tables i s =
    if is_barrier s.statement then found_at s.at (option_map HeldAtBarrier (position (λ under. slice_index_or under i false) tables)) else []
