-- Of each variable, its last access, where all others of it happen before that.
use Rattle.std.specs.Prelude.{◌≡◌, ◌≢◌, ℕ, ◌<◌, List, Option, Some, None, Bool, true, false, slice_get, slice_index, ⊤}
use Rattle.lrc_races_trace.specs.declared.event.Event.{Event}
use Rattle.lrc_races_trace.specs.declared.event.Operation.{Operation}
use Rattle.lrc_races_trace.specs.declared.event.Operation.TheVariants.{Read, Write}
use Rattle.lrc_races_trace.specs.Trace.{At, Accesses}
use Rattle.lrc_races_trace.specs.Order.{Reaches}
use Rattle.lrc_races_detector.specs.declared.covers.Cover.{Cover}
use Rattle.lrc_races_detector.specs.declared.covers.Covers.{Covers}

-- the operation is a write, or a read
abbrev pub operation_of : Bool → ℕ → Operation
operation_of true v = Write v
operation_of false v = Read v

abbrev pub cover_at : Option (Option Cover) → Option Cover
cover_at (Some cover) = cover
cover_at None = None

abbrev pub cover_of : Covers → ℕ → Option Cover
cover_of covers variable = cover_at (slice_get covers.covers.items variable)

-- this variable has this one, and all others have the same as before
pub record IsCoverSet (before after : Covers) (variable : ℕ) (cover : Option Cover) : Type 0 where
  pub here : cover_of after variable ≡ cover
  pub others : (other : ℕ) → other ≢ variable → cover_of after other ≡ cover_of before other

abbrev pub IsCoverKnown : Option Cover → List ℕ → Type 0
IsCoverKnown (Some cover) known = cover.position < slice_index known cover.thread
IsCoverKnown None known = ⊥

-- each access of the variable before n is the one at this position, or happens before it
pub record IsBehindAll (events : List Event) (n v : ℕ) (cover : Cover) : Type 0 where
  pub event : Event
  pub at : At events cover.position event
  pub thread : event.thread ≡ cover.thread
  pub before : cover.position < n
  pub reached : (k : ℕ) (a : Event) → k < n → At events k a → Accesses a v → Reaches events k cover.position

abbrev pub IsCover : List Event → ℕ → ℕ → Option Cover → Type 0
IsCover events n v (Some cover) = IsBehindAll events n v cover
IsCover events n v None = ⊤

abbrev pub AreCovers : List Event → ℕ → Covers → Type 0
AreCovers events n covers = (v : ℕ) → IsCover events n v (cover_of covers v)
