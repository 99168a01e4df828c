-- What is known of a program of which no order races.
use Rattle.std.specs.Prelude.{◌↔◌, ℕ, List}
use Rattle.lrc_program.specs.declared.Program.{Program}
use Rattle.lrc_trace.specs.declared.act.Act.{Act}
use Rattle.lrc_orders.specs.declared.outcomes.Outcome.{Outcome}
use Rattle.lrc_orders.specs.Outcome.{HasOutcome, IsOutcome}
use Rattle.lrc_consistency_laws.specs.Racing.{HasNoRace}
use Rattle.lrc_explore_text.specs.OutcomeRun.{HasFewerOutcomes, IsNumberedRun}
use Rattle.lrc_exact_text.specs.declared.calm.CalmRun.{CalmRun}
use Rattle.lrc_exact_text.specs.declared.calm.CalmRun.TheVariants.{Run, Fewer, Unknown}

-- no order races, and these are exactly the outcomes
pub record AreCalmOutcomes (program : Program) (nodes : ℕ) (outcomes : List Outcome) : Type 0 where
  pub calm : HasNoRace program nodes
  pub exact : (notes : List Act) → HasOutcome outcomes notes ↔ IsOutcome program nodes notes

-- no order races, and the acts are those of a run that has the outcome with this number, or there are fewer
abbrev pub IsCalmRun : Program → (nodes number : ℕ) → CalmRun → Type 0
IsCalmRun program nodes number (Run acts) = HasNoRace program nodes × IsNumberedRun program nodes number acts.items
IsCalmRun program nodes number Fewer = HasNoRace program nodes × HasFewerOutcomes program nodes number
IsCalmRun program nodes number Unknown = Unit {0}
