-- Where the texts of the other nodes lead up to their next barriers, whatever values names and words have.
use Rattle.std.specs.Prelude.{◌≡◌, ◌≢◌, ℕ, Bool, true, false, List, ◌∷◌, Some}
use Rattle.lrc_program.specs.declared.Statement.{Statement}
use Rattle.lrc_program.specs.declared.Statement.TheVariants.{Barrier}
use Rattle.lrc_trace.specs.declared.act.Deed.{Deed}
use Rattle.lrc_exec.specs.Flat.{where_it_holds, where_it_fails}
use Rattle.lrc_exec.specs.Meaning.{Thread, next_of}
use Rattle.lrc_exec.specs.Plain.{Plain, thread_in}
use Rattle.lrc_orders_undisputed.specs.Undisputed.{Conflicts}

-- Sets of places, for each other node, are closed: a place is what is still to do there. Each node's place is in its set, if it waits at no
-- barrier, and so are those behind each place, in both branches, where no barrier comes next. They may have more.
pub record ArePlacesFollowed (machine : Plain) (node : ℕ) (places : ℕ → List Statement → Bool) : Type 0 where
  pub begun : (other : ℕ) (thread : Thread) → other ≢ node → thread_in machine other ≡ Some thread → thread.arrived ≡ false
      → places other thread.rest ≡ true
  pub holds_on : (other : ℕ) (statement : Statement) (rest : List Statement) → other ≢ node → places other (statement ∷ rest) ≡ true
      → statement ≢ Barrier → places other (where_it_holds statement rest) ≡ true
  pub fails_on : (other : ℕ) (statement : Statement) (rest : List Statement) → other ≢ node → places other (statement ∷ rest) ≡ true
      → statement ≢ Barrier → places other (where_it_fails statement rest) ≡ true

-- no thread of the same setting at one of the places, whatever its names and locks, is about to make an act that conflicts
abbrev pub NoPlaceConflicts : Plain → (node : ℕ) → Deed → (places : ℕ → List Statement → Bool) → Type 0
NoPlaceConflicts machine node deed places =
    (other : ℕ) (first thread : Thread) → other ≢ node → thread_in machine other ≡ Some first → thread.setting ≡ first.setting
    → thread.arrived ≡ false → places other thread.rest ≡ true → ¬ Conflicts deed (next_of thread)
