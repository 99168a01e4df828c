-- An access gives its variable, and another event none.
use Rattle.std.proofs.Common.{inl, inr}
use Rattle.lrc_races_missed.proofs.Testing.{gives_none, gives_on}
use Rattle.lrc_races_missed.proofs.variables.racing_at.Goals as goal

pub returns-in-Read : goal.returns-in-Read
returns-in-Read c = gives_on c.args.facts.now c.args.event c.in-Read.variable c.racing_on.result c.in-Read.is c.racing_on.ensures

pub returns-in_default : goal.returns-in_default
returns-in_default c = gives_none c.args.facts.now c.args.event (λ v accesses. elim accesses [
  | inl reads ↦ c.in_default.not-Read v reads
  | inr writes ↦ c.in_default.not-Write v writes
])
