-- States that differ at most in how often nodes have arrived, and in private values that nothing depends on any more.
use Rattle.std.specs.Prelude.{◌≡◌, ℕ, List, length}
use Rattle.lrc_trace.specs.declared.act.Act.{Act}
use Rattle.lrc_exec.specs.Plain.{Plain, thread_in}
use Rattle.lrc_orders.specs.Meeting.{Meet}
use Rattle.lrc_orders.specs.Stuck.{IsAtRest}
use Rattle.lrc_orders_laws.specs.Alike.{BothAlike}
use Rattle.lrc_orders_laws.specs.Names.{AgreeWhereItMatters}
use Rattle.lrc_orders_laws.specs.Steps.{Leads}
use Rattle.lrc_orders_settling.specs.declared.step.Step.{Step}
use Rattle.lrc_orders_settling.specs.Taking.{Takes}

-- the same words and holders of locks, and threads that have the same still to do, hold the same locks, and have the same values of the
-- names that matter
pub record AreLike (machine other : Plain) : Type 0 where
  pub memory : machine.memory ≡ other.memory
  pub holders : machine.holders ≡ other.holders
  pub count : length machine.threads ≡ length other.threads
  pub threads : (node : ℕ) → BothAlike AgreeWhereItMatters (thread_in machine node) (thread_in other node)

-- a step makes these acts here too, and leads to a state like that one
pub record LeadsLike (other : Plain) (acts : List Act) (after : Plain) : Type 0 where
  pub there : Plain
  pub leads : Leads other acts there
  pub alike : AreLike after there

-- a step makes these acts, and leads to a state like this
pub record TakesLike (machine : Plain) (step : Step) (acts : List Act) (like : Plain) : Type 0 where
  pub there : Plain
  pub takes : Takes machine step acts there
  pub alike : AreLike there like

-- who meets at the one meets at the other, the other is at rest where the one is, and steps lead on alike
pub record GoesOnLike (machine other : Plain) : Type 0 where
  pub meets : (p q : ℕ) → Meet machine p q → Meet other p q
  pub rests : IsAtRest machine → IsAtRest other
  pub leads : (acts : List Act) (after : Plain) → Leads machine acts after → LeadsLike other acts after
