-- What is known of pairs of threads, and of the acts of states.
use Rattle.std.specs.Prelude.{◌≡◌, ℕ, true, Bool, List, Option, Some, IfSome, slice_get}
use Rattle.lrc_trace.specs.declared.act.Deed.{Deed}
use Rattle.lrc_exec.specs.declared.spot.Flat.{Flat}
use Rattle.lrc_exec.specs.declared.spot.Spot.{Spot}
use Rattle.lrc_exec.specs.declared.state.State.{State}
use Rattle.lrc_orders_table.specs.Nexts.{next_in}
use Rattle.lrc_orders_table.specs.declared.table.Table.{Table}
use Rattle.std.specs.Prelude.{Vec}
use Rattle.std.specs.declared.alloc.Global.{Global}
use Rattle.lrc_orders_reach.specs.declared.standing.Standing.{Standing}
use Rattle.lrc_orders_reach.specs.Standing.{IsReachOf}
use Rattle.lrc_orders_away.specs.Undisputed.{IsUndisputedAt, KeepsAway}
use Rattle.lrc_orders_less.specs.Clash.{clash_by}
use Rattle.lrc_orders_less.specs.declared.reaches.Pair.{Pair}
use Rattle.lrc_orders_less.specs.declared.reaches.Reaches.{Reaches}
use Rattle.lrc_orders_less.specs.declared.reaches.Text.{Text}

-- the number is that of a thread
abbrev pub IsThread : Table → (number : ℕ) → Type 0
IsThread table number = (spot : Spot) × (slice_get table.rows.threads.keys number ≡ Some spot)

-- the other thread comes to no act that conflicts with the next one of the first
pub record IsClearPair (flat : Flat) (threads : List Spot) (pair : Pair) : Type 0 where
  pub acting : Spot
  pub acting_there : slice_get threads pair.acting ≡ Some acting
  pub other : Spot
  pub other_there : slice_get threads pair.other ≡ Some other
  pub keeps : KeepsAway flat other acting.held (clash_by (next_in flat acting))

-- to these the text of a thread was followed, if it was not given up
pub record IsText (flat : Flat) (threads : List Spot) (text : Text) (found : Option (Vec Standing Global)) : Type 0 where
  pub spot : Spot
  pub there : slice_get threads text.thread ≡ Some spot
  pub reach : IfSome found (λ all. IsReachOf flat spot.me text.blocked spot all.items)

abbrev pub AreTexts : Flat → List Spot → List (Text × Option (Vec Standing Global)) → Type 0
AreTexts flat threads entries = (k : ℕ) (text : Text) (found : Option (Vec Standing Global)) → slice_get entries k ≡ Some (text, found) → IsText flat threads text found

-- it stands at this place
abbrev pub HasText : List (Text × Option (Vec Standing Global)) → Text → (place : ℕ) → Type 0
HasText entries text place = (found : Option (Vec Standing Global)) × (slice_get entries place ≡ Some (text, found))

-- what is known of pairs and texts is so
pub record AreReaches (flat : Flat) (threads : List Spot) (reaches : Reaches) : Type 0 where
  pub pairs : (k : ℕ) (pair : Pair) (known : Bool) → slice_get reaches.pairs.entries k ≡ Some (pair, known) → known ≡ true
      → IsClearPair flat threads pair
  pub texts : AreTexts flat threads reaches.texts.entries

-- another node of a state comes to no act that conflicts with the next one of a node
abbrev pub StaysClear : Flat → State → (node other : ℕ) → Type 0
StaysClear flat state node other =
    (own spot : Spot) → (other ≡ node → ⊥) → slice_get state.spots.items node ≡ Some own → slice_get state.spots.items other ≡ Some spot
    → KeepsAway flat spot own.held (clash_by (next_in flat own))

-- whatever read, write or acquire the node makes next is undisputed
abbrev pub IsAlwaysUndisputed : Flat → State → (node : ℕ) → Type 0
IsAlwaysUndisputed flat state node = (deed : Deed) → IsUndisputedAt flat state node deed
