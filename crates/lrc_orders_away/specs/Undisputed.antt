-- Acts of a state that are undisputed.
use Rattle.std.specs.Prelude.{◌≡◌, ℕ, Bool, true, List, Some, slice_get}
use Rattle.lrc_program.specs.declared.Program.{Program}
use Rattle.lrc_trace.specs.declared.act.Act.{Act}
use Rattle.lrc_trace.specs.declared.act.Deed.{Deed}
use Rattle.lrc_exec.specs.declared.spot.Flat.{Flat}
use Rattle.lrc_exec.specs.declared.spot.Spot.{Spot}
use Rattle.lrc_exec.specs.declared.state.State.{State}
use Rattle.lrc_exec.specs.Meaning.{Thread, next_of}
use Rattle.lrc_exec.specs.Plain.{Plain, plain_step}
use Rattle.lrc_exec.specs.Spots.{spot_thread}
use Rattle.lrc_exec.specs.States.{plain_at}
use Rattle.lrc_orders_laws.specs.Free.{is_contended}
use Rattle.lrc_orders_laws.specs.Steps.{IsSettledState}
use Rattle.lrc_orders_live.specs.Like.{AreLike}
use Rattle.lrc_orders_undisputed.specs.Undisputed.{Conflicts, IsUndisputed}
use Rattle.lrc_orders_reach.specs.Standing.{ComesTo}

-- the node comes to no act that conflicts, before it departs and past no acquire of a blocked lock
abbrev pub KeepsAway : Flat → Spot → (blocked : List Bool) → Deed → Type 0
KeepsAway flat spot blocked deed =
    (first thread : Thread) → spot_thread flat spot ≡ Some first → ComesTo blocked first thread → ¬ Conflicts deed (next_of thread)

-- so does another node of a state, past no acquire of a lock that the node holds
abbrev pub StaysAway : Flat → State → (node : ℕ) → Deed → (other : ℕ) → Type 0
StaysAway flat state node deed other =
    (own spot : Spot) → (other ≡ node → ⊥) → slice_get state.spots.items node ≡ Some own → slice_get state.spots.items other ≡ Some spot
    → KeepsAway flat spot own.held deed

-- at each settled state of a program that is like this one, the same but for how often nodes have arrived and for private values that
-- nothing depends on any more, the node's act is undisputed, if it makes it
abbrev pub IsUndisputedAt : Flat → State → (node : ℕ) → Deed → Type 0
IsUndisputedAt flat state node deed =
    (program : Program) (nodes : ℕ) (acts : List Act) (machine after : Plain) → IsSettledState program nodes acts machine
    → AreLike machine (plain_at flat state) → plain_step machine node ≡ Some (deed, after) → is_contended deed ≡ true
    → IsUndisputed machine node deed after
