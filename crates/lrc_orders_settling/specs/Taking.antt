-- Steps from a settled state, by who takes them.
use Rattle.std.specs.Prelude.{◌≡◌, ℕ, true, List, ◌∷◌, ◌++◌, Some, length, map, if◌then◌else◌}
use Rattle.std.specs.List.{range_with_len}
use Rattle.lrc_trace.specs.declared.act.Act.{Act}
use Rattle.lrc_trace.specs.declared.act.Deed.{Deed}
use Rattle.lrc_trace.specs.Run.{act_of}
use Rattle.lrc_exec.specs.declared.spot.Flat.{Flat}
use Rattle.lrc_exec.specs.declared.spot.Spot.{Spot}
use Rattle.lrc_exec.specs.Plain.{Plain, thread_in, plain_step, plain_from}
use Rattle.lrc_exec.specs.declared.state.State.{State}
use Rattle.lrc_exec.specs.States.{plain_at}
use Rattle.lrc_orders_laws.specs.Free.{is_contended}
use Rattle.lrc_orders_laws.specs.Rows.{AreAlike}
use Rattle.lrc_orders_laws.specs.Settling.{Settles}
use Rattle.lrc_orders_laws.specs.Steps.{AllWait}
use Rattle.lrc_orders_settling.specs.Settling.{MakesFree}
use Rattle.lrc_orders_settling.specs.declared.step.Step.{Step}
use Rattle.lrc_orders_settling.specs.declared.step.Step.TheVariants.{Alone, Together}

-- a step makes these acts and leads from one settled state to that one: one node's read, write or acquire, or the departs of all
pub data Takes : Plain → Step → List Act → Plain → Type 0 where
  alone : (machine mid after : Plain) (node : ℕ) (deed : Deed) (acts : List Act) → is_contended deed ≡ true → plain_step machine node ≡ Some (deed, mid)
      → Settles mid acts after → Takes machine (Alone node) (act_of node deed ∷ acts) after
  together : (machine mid after : Plain) (departs acts : List Act) → AllWait machine
      → plain_from machine (range_with_len 0 (length machine.threads)) ≡ Some (departs, mid) → Settles mid acts after
      → Takes machine Together (departs ++ acts) after

-- so it does, to a state like this
pub record TakesTo (machine : Plain) (step : Step) (acts : List Act) (like : Plain) : Type 0 where
  pub there : Plain
  pub takes : Takes machine step acts there
  pub alike : AreAlike there like

-- a state has taken the step to another: the acts were put to those before
pub record HasTaken (flat : Flat) (old : State) (step : Step) (new : State) (before after : List Act) : Type 0 where
  pub acts : List Act
  pub takes : TakesTo (plain_at flat old) step acts (plain_at flat new)
  pub made : after ≡ before ++ acts

-- from this state an order leads to where some node makes so many free acts
pub record ComputesLong (machine : Plain) (most : ℕ) : Type 0 where
  pub order : List ℕ
  pub acts : List Act
  pub there : Plain
  pub led : plain_from machine order ≡ Some (acts, there)
  pub node : ℕ
  pub makes : MakesFree most (thread_in there node)

-- the nodes of a state have arrived once where they wait, and else never
abbrev pub count_of : Spot → ℕ
count_of spot = if spot.arrived then 1 else 0

abbrev pub IsCounted : State → Type 0
IsCounted state = state.arrivals.items ≡ map count_of state.spots.items

-- all nodes have departed, one after another: the acts were put to those before
pub record HaveDeparted (flat : Flat) (old new : State) (before after : List Act) : Type 0 where
  pub departs : List Act
  pub led : plain_from (plain_at flat old) (range_with_len 0 (length (plain_at flat old).threads)) ≡ Some (departs, plain_at flat new)
  pub made : after ≡ before ++ departs
