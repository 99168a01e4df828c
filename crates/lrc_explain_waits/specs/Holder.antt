-- Who holds a lock after acts: the node that acquired it last, unless it was released since.
use Rattle.std.specs.Prelude.{ℕ, ◌+◌, ◌==◌, List, [], ◌∷◌, Option, Some, None, if◌then◌else◌, slice_index}
use Rattle.lrc_trace.specs.declared.act.Act.{Act}
use Rattle.lrc_trace.specs.declared.act.Deed.{Deed}
use Rattle.lrc_trace.specs.declared.act.Deed.TheVariants.{Acquire, Release}
use Rattle.lrc_explain_waits.specs.declared.holder.Holder.{Holder}

-- the holder of a lock once a deed is done that makes `taker` the holder, if it is an acquire of the lock
abbrev pub held_by : (lock : ℕ) → (taker : Holder) → Option Holder → Deed → Option Holder
held_by lock taker held (Acquire l) = if l == lock then Some taker else held
held_by lock taker held (Release l) = if l == lock then None else held
held_by lock taker held _ = held

-- the same once an act is done that is of this line
abbrev pub holder_after : (lock line : ℕ) → Option Holder → Act → Option Holder
holder_after lock line held act = held_by lock (record { node = act.node; line = line }) held act.deed

-- the same once acts are done, of which the first stands at this position
abbrev pub held_from : (lock : ℕ) → (lines : List ℕ) → (position : ℕ) → Option Holder → List Act → Option Holder
held_from lock lines position held [] = held
held_from lock lines position held (act ∷ acts) =
    held_from lock lines (position + 1) (holder_after lock (slice_index lines position) held act) acts

-- the holder of a lock after acts that are of these lines; before any act nobody holds it
abbrev pub holder_of : (lock : ℕ) → List Act → (lines : List ℕ) → Option Holder
holder_of lock acts lines = held_from lock lines 0 None acts
