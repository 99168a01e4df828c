-- The collections of a run, held against the exact memory of its acts.
use Rattle.std.specs.Prelude.{◌≡◌, ℕ, ◌&&◌, Bool, true, Option, Some, List, Contains, length, nat_le, slice_get}
use Rattle.lrc_trace.specs.Run.{departs_before}
use Rattle.lrc_envelope.specs.Envelope.{EnvelopeRecord}
use Rattle.lrc_envelope.specs.Records.{ArriveRecord, DepartRecord}
use Rattle.lrc_envelope.specs.declared.message.Message.TheVariants.{Arrive, Depart}
use Rattle.lrc_protocol.specs.Node.{OptionsRecord}
use Rattle.lrc_protocol.specs.Run.{Logged, World}
use Rattle.lrc_protocol.specs.Follows.{pending}
use Rattle.lrc_order_laws.specs.Barriers.{time_in}
use Rattle.lrc_exact.specs.LocalRule.{state_before, arrived_state}
use Rattle.lrc_exact.specs.Rule.{Shape, Knowledge, State, exact_rule, KeepsExact, asks, collects, known_by_all}
use Rattle.lrc_exact_made.specs.Copies.{shape_of}

-- the exact memory of a run with these options
abbrev pub shape_in : ℕ → OptionsRecord → Shape
shape_in nodes options = shape_of nodes options.size options.collect

-- a node's state after all acts
abbrev pub state_of : ℕ → OptionsRecord → World → List State → ℕ → State
state_of nodes options world states n = state_before (exact_rule (shape_in nodes options)) world.acts states n (length world.acts)

-- the states at the arrives of the barrier from which a node departs next; whether it collects; and what was known at them
abbrev pub arrived_at : World → List State → ℕ → ℕ → Option State
arrived_at world states n = arrived_state world.acts states (departs_before world.acts n (length world.acts)) (length world.acts)

abbrev pub collects_at : ℕ → OptionsRecord → World → List State → ℕ → Bool
collects_at nodes options world states n = collects (shape_in nodes options) (arrived_at world states n)

abbrev pub known_at : ℕ → World → List State → ℕ → Knowledge
known_at nodes world states n = known_by_all nodes nodes (arrived_at world states n)

-- With the states of the run's acts:
pub record AreCollected (nodes : ℕ) (options : OptionsRecord) (world : World) (states : List State) : Type 0 where
  pub keeps : KeepsExact (shape_in nodes options) world.acts states
  -- each node has dropped what its state has;
  pub dropped : (n : ℕ) (l : Logged) → slice_get world.nodes n ≡ Some l → (state_of nodes options world states n).dropped ≡ l.node.memory.collected
  -- an Arrive on its way asks for a collection exactly if its sender's state does;
  pub asked : (e : EnvelopeRecord) (m : ArriveRecord) (l : Logged) → Contains (pending world) e → e.message ≡ Arrive m
      → slice_get world.nodes e.from ≡ Some l
      → m.ask ≡ (nat_le 1 options.collect && asks options.collect (Some (state_of nodes options world states e.from)))
  -- a Depart on its way tells its receiver to collect exactly if the barrier collects;
  pub told : (e : EnvelopeRecord) (m : DepartRecord) (l : Logged) → Contains (pending world) e → e.message ≡ Depart m
      → slice_get world.nodes e.to ≡ Some l → m.collect ≡ collects_at nodes options world states e.to
  -- and of a node in a collection the barrier collects, and what it will have dropped is what was known at all arrives.
  pub inside : (n : ℕ) (l : Logged) (time : List ℕ) → slice_get world.nodes n ≡ Some l → time_in l.node.mail.wait ≡ Some time
      → (collects_at nodes options world states n ≡ true) × (time ≡ (known_at nodes world states n).time)
