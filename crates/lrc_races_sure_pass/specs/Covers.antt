-- Of each variable, its last access, where all others of it lead to that.
use Rattle.std.specs.Prelude.{◌≡◌, ℕ, ◌<◌, List, Option, Some, None, ⊤}
use Rattle.lrc_races_trace.specs.declared.event.Event.{Event}
use Rattle.lrc_races_trace.specs.Trace.{At, Accesses}
use Rattle.lrc_races_sure.specs.Leading.{Leads}
use Rattle.lrc_races_detector.specs.declared.covers.Cover.{Cover}
use Rattle.lrc_races_detector.specs.declared.covers.Covers.{Covers}
use Rattle.lrc_races_detector.specs.Covers.{cover_of}

-- each access of the variable before n is the one at this position, or leads to it
pub record IsBehindAll (events : List Event) (n v : ℕ) (cover : Cover) : Type 0 where
  pub event : Event
  pub at : At events cover.position event
  pub thread : event.thread ≡ cover.thread
  pub before : cover.position < n
  pub leads : (k : ℕ) (a : Event) → k < n → At events k a → Accesses a v → Leads events k cover.position

abbrev pub IsCover : List Event → ℕ → ℕ → Option Cover → Type 0
IsCover events n v (Some cover) = IsBehindAll events n v cover
IsCover events n v None = ⊤

abbrev pub AreCovers : List Event → ℕ → Covers → Type 0
AreCovers events n covers = (v : ℕ) → IsCover events n v (cover_of covers v)
