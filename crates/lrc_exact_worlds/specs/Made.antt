-- The intervals of a run, held against the exact memory of its acts.
use Rattle.std.specs.Prelude.{◌≡◌, ℕ, List, Contains, length}
use Rattle.lrc_trace.specs.Interval.{interval_at}
use Rattle.lrc_clock.specs.Cover.{ClosesAt}
use Rattle.lrc_store.specs.Store.{StoredRecord}
use Rattle.lrc_copies.specs.Stamps.{stamp_index}
use Rattle.lrc_protocol.specs.Node.{OptionsRecord}
use Rattle.lrc_protocol.specs.Run.{World}
use Rattle.lrc_reading_laws.specs.Written.{made_stamps}
use Rattle.lrc_exact.specs.LocalRule.{state_before}
use Rattle.lrc_exact.specs.Rule.{Shape, State, exact_rule, open_interval, KeepsExact}
use Rattle.lrc_exact_made.specs.Copies.{shape_of, IsExactly}

-- the exact memory of a run with these options
abbrev pub shape_in : ℕ → OptionsRecord → Shape
shape_in nodes options = shape_of nodes options.size options.collect

-- With the states of the run's acts, each interval did what the exact memory says of it:
pub record AreExact (nodes : ℕ) (options : OptionsRecord) (made : List StoredRecord) (world : World) (states : List State) : Type 0 where
  pub keeps : KeepsExact (shape_in nodes options) world.acts states
  -- of its node's open interval just before the act that closes it,
  pub closed : (x : StoredRecord) (j : ℕ) → Contains made x → ClosesAt world.acts x.node (stamp_index made_stamps x) j
      → IsExactly options.size x (open_interval (state_before (exact_rule (shape_in nodes options)) world.acts states x.node j))
  -- or after all acts, where that act is still to come: an acquire, for which the node waits.
  pub waiting : (x : StoredRecord) → Contains made x → interval_at world.acts x.node (length world.acts) ≡ stamp_index made_stamps x
      → IsExactly options.size x
      (open_interval (state_before (exact_rule (shape_in nodes options)) world.acts states x.node (length world.acts)))
