-- A state after the free deeds of one node, and after those of all.
use Rattle.std.specs.Prelude.{◌≡◌, ℕ, ◌≤◌, List, [], ◌∷◌, ◌++◌, Option, None, length, map, slice_set, if◌then◌else◌}
use Rattle.lrc_trace.specs.declared.act.Act.{Act}
use Rattle.lrc_trace.specs.declared.act.Deed.{Deed}
use Rattle.lrc_trace.specs.declared.act.Deed.TheVariants.{Release}
use Rattle.lrc_trace.specs.Run.{act_of}
use Rattle.lrc_exec.specs.declared.spot.Flat.{Flat}
use Rattle.lrc_exec.specs.declared.spot.Spot.{Spot}
use Rattle.lrc_exec.specs.Meaning.{Thread}
use Rattle.lrc_exec.specs.Plain.{Plain, thread_in}
use Rattle.lrc_exec.specs.Spots.{spot_thread, spot_stopped}
use Rattle.lrc_orders_laws.specs.Rows.{AreAlike}
use Rattle.lrc_orders_laws.specs.Settling.{Settles}
use Rattle.lrc_orders_laws.specs.Threads.{ThreadSettles}
use Rattle.lrc_exec.specs.declared.state.State.{State}
use Rattle.lrc_exec.specs.States.{plain_at}
use Rattle.lrc_orders_settling.specs.declared.settle.Settled.{Settled}

-- the acts of a node that are these deeds
abbrev pub acts_by : ℕ → List Deed → List Act
acts_by node deeds = map (act_of node) deeds

-- the holders of locks after a deed that may give one back, and after several
abbrev pub freed_by : Deed → List (Option ℕ) → List (Option ℕ)
freed_by (Release lock) holders = slice_set holders lock None
freed_by _ holders = holders

abbrev pub freed : List Deed → List (Option ℕ) → List (Option ℕ)
freed [] holders = holders
freed (deed ∷ deeds) holders = freed deeds (freed_by deed holders)

-- the state in which a node has made these free deeds and come to this thread, but for how often it has arrived
abbrev pub gone : Plain → (node : ℕ) → List Deed → Option Thread → Plain
gone machine node deeds there = record {
  memory = machine.memory;
  holders = freed deeds machine.holders;
  arrivals = machine.arrivals;
  threads = slice_set machine.threads node there;
}

-- a node of a state has settled: these acts were put to those before
pub record NodeSettles (flat : Flat) (old : State) (node : ℕ) (new : State) (before after : List Act) : Type 0 where
  pub deeds : List Deed
  pub there : Option Thread
  pub settles : ThreadSettles (thread_in (plain_at flat old) node) deeds there
  pub is : plain_at flat new ≡ gone (plain_at flat old) node deeds there
  pub made : after ≡ before ++ acts_by node deeds

-- what is kept of a thread: of a node that has stopped nothing but its number
abbrev pub kept_spot : Spot → ℕ → Spot
kept_spot spot me = if spot.stopped then spot_stopped me else spot

-- so a thread settles
pub record IsSettledSpot (flat : Flat) (spot : Spot) (settled : Settled) : Type 0 where
  pub settles : ThreadSettles (spot_thread flat spot) settled.deeds.items (spot_thread flat settled.spot)
  pub within : settled.spot.place ≤ length flat.code.now

-- a state settles by these acts to one like this
pub record SettlesTo (machine : Plain) (acts : List Act) (like : Plain) : Type 0 where
  pub there : Plain
  pub settles : Settles machine acts there
  pub alike : AreAlike there like

-- the state has settled to another: the acts were put to those before
pub record HasSettled (flat : Flat) (old new : State) (before after : List Act) : Type 0 where
  pub acts : List Act
  pub settles : SettlesTo (plain_at flat old) acts (plain_at flat new)
  pub made : after ≡ before ++ acts
