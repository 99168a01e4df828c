-- States that differ at most in how often nodes have arrived.
use Rattle.std.specs.Prelude.{◌≡◌, ℕ, List}
use Rattle.lrc_trace.specs.declared.act.Act.{Act}
use Rattle.lrc_exec.specs.Plain.{Plain}
use Rattle.lrc_orders.specs.Meeting.{Meet}
use Rattle.lrc_orders.specs.Stuck.{IsAtRest}
use Rattle.lrc_orders_laws.specs.Steps.{Leads}

-- the same words, holders of locks and threads
pub record AreAlike (machine other : Plain) : Type 0 where
  pub memory : machine.memory ≡ other.memory
  pub holders : machine.holders ≡ other.holders
  pub threads : machine.threads ≡ other.threads

-- a step makes these acts here too, and leads to a state alike
pub record LeadsAlike (other : Plain) (acts : List Act) (after : Plain) : Type 0 where
  pub there : Plain
  pub leads : Leads other acts there
  pub alike : AreAlike after there

-- who meets at the one meets at the other, the other is at rest where the one is, and steps lead on alike
pub record GoesOnAlike (machine other : Plain) : Type 0 where
  pub meets : (p q : ℕ) → Meet machine p q → Meet other p q
  pub rests : IsAtRest machine → IsAtRest other
  pub leads : (acts : List Act) (after : Plain) → Leads machine acts after → LeadsAlike other acts after
