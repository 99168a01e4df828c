-- The rounds of a `for`.
use Rattle.std.specs.Prelude.{◌≡◌, ◌<◌, ◌≤◌, ℕ, ◌+◌, Some, List, [], ◌∷◌, ◌++◌, length}
use Rattle.lrc_program.specs.declared.Operator.TheVariants.{Add, Less}
use Rattle.lrc_program.specs.declared.Statement as code
use Rattle.lrc_trace.specs.declared.act.Deed.{Deed}
use Rattle.lrc_trace.specs.declared.act.Deed.TheVariants.{Quiet}
use Rattle.lrc_exec.specs.Meaning.{Thread, next_of}
use Rattle.lrc_exec.specs.Follows.{Goes}
use Rattle.lrc_named_core.specs.Tree.{Private, Expression, number, private, binary, Statement, assign, while_do, Block, empty, next, only, behind, Origin}
use Rattle.lrc_named_acts_laws.specs.Coded.{Numbers}
use Rattle.lrc_named_acts_laws.specs.Standing.{StandsBefore, Stays, worth}

-- what a `for` adds to its name at the end of its block
abbrev pub step_of : Origin → Private → Statement
step_of at name = assign at name (binary (private name) Add (number 1))

-- its loop
abbrev pub loop_of : Origin → Private → (limit : Expression) → Block → Statement
loop_of at name limit inside = while_do at (binary (private name) Less limit) (behind inside (only (step_of at name)))

module _ (numbers : Numbers) (at : Origin) (name : Private) (limit : Expression) (inside : Block) (more : List code.Statement) (b : ℕ) where
  -- a node stands at the beginning of the block, and its name is worth this
  pub record Begins (i : ℕ) (t : Thread) : Type 0 where
    pub stands : StandsBefore numbers t (behind inside (next (step_of at name) (only (loop_of at name limit inside)))) more
    pub worth_is : worth numbers t name ≡ i

  -- it stands at the block's end
  abbrev pub Ends : Thread → Type 0
  Ends t = StandsBefore numbers t (next (step_of at name) (only (loop_of at name limit inside))) more

  -- From before the loop's condition, where the name is worth i, these deeds make the block for i, for i + 1, and so on, each time
  -- whole; the last time perhaps not to its end. Where the name is worth b they leave the loop, and not before.
  pub data Rounds : ℕ → Thread → List Deed → Thread → Type 0 where
    nothing_yet : {i : ℕ} {t : Thread} → Rounds i t [] t
    leaves : {i : ℕ} {t u : Thread} → b ≤ i → Goes (next_of t) Quiet (Some u) → StandsBefore numbers u empty more → Rounds i t (Quiet ∷ []) u
    in_a_round : {i : ℕ} {t s u : Thread} {ds : List Deed} → i < b → Goes (next_of t) Quiet (Some s) → Begins i s → Stays (length more + 2) s ds u
        → Rounds i t (Quiet ∷ ds) u
    a_round : {i : ℕ} {t s v w u : Thread} {ds es : List Deed} → i < b → Goes (next_of t) Quiet (Some s) → Begins i s → Stays (length more + 2) s ds v
        → Ends v → Goes (next_of v) Quiet (Some w) → Rounds (i + 1) w es u → Rounds i t (Quiet ∷ (ds ++ Quiet ∷ es)) u
