-- What the acts before a position hand on to the act there.
use Rattle.std.specs.Prelude.{◌≡◌, ℕ, ◌<◌, ◌≤◌, List, length, slice_index, slice_index_or}
use Rattle.lrc_trace.specs.declared.act.Act.{Act}
use Rattle.lrc_trace.specs.declared.act.Deed.{Deed}
use Rattle.lrc_trace.specs.declared.act.Deed.TheVariants.{Release, Arrive}
use Rattle.lrc_trace.specs.Run.{Does, IsDone, arrives_before, departs_before}
use Rattle.lrc_trace.specs.Order.{Reaches}
use Rattle.lrc_judge.specs.declared.reach.Reach.{Reach}
use Rattle.lrc_judge.specs.declared.past.Past.{Past}

-- For each node one more than the latest of its positions that reach one of these positions, or 0 where none does.
pub record Gathers (run : List Act) (these : ℕ → Type 0) (reach : Reach) : Type 0 where
  pub sound : (i p : ℕ) (d : Deed) → Does run i p d → i < slice_index reach.latest p → (k : ℕ) × these k × Reaches run i k
  pub complete : (i k p : ℕ) (d : Deed) → Does run i p d → these k → Reaches run i k → i < slice_index reach.latest p

-- each place of the table gathers the positions that belong to it
abbrev pub EachGathers : List Act → (ℕ → ℕ → Type 0) → List Reach → Type 0
EachGathers run these table = (x : ℕ) (d : Reach) → x < length table → Gathers run (these x) (slice_index_or table x d)

-- the positions before n at which the node acts,
abbrev pub Acted : List Act → ℕ → ℕ → ℕ → Type 0
Acted run n node k = (k < n) × ((d : Deed) × Does run k node d)

-- at which some node releases the lock,
abbrev pub Released : List Act → ℕ → ℕ → ℕ → Type 0
Released run n l k = (k < n) × IsDone run k (Release l)

-- and at which some node arrives with so many arrives of its own before it
abbrev pub Arrived : List Act → ℕ → ℕ → ℕ → Type 0
Arrived run n number k = (k < n) × ((p : ℕ) × Does run k p Arrive × (arrives_before run p k ≡ number))

-- the past is what the acts before position n of the run hand on
pub record IsPast (run : List Act) (n : ℕ) (past : Past) : Type 0 where
  pub acted : EachGathers run (Acted run n) past.acted
  pub released : EachGathers run (Released run n) past.released.items
  pub arrived : EachGathers run (Arrived run n) past.arrived.items
  -- no node has arrived more often than there are places for
  pub all_kept : (node : ℕ) → arrives_before run node n ≤ length past.arrived.items
  pub arrives : (node : ℕ) → node < length past.arrives → slice_index past.arrives node ≡ arrives_before run node n
  pub departs : (node : ℕ) → node < length past.departs → slice_index past.departs node ≡ departs_before run node n
