-- The cycle is what is kept of the barrier.
use Rattle.std.proofs.Common.{sym, ◌∙◌, ap}
use Rattle.std.specs.Prelude.{Some}
use Rattle.lrc_races_why.specs.Cycles.{cycle_in}
use Rattle.lrc_races_why.proofs.Gating.{cycle_in-none}
use Rattle.lrc_races_why.proofs.cycles.number_of.Goals as goal

pub returns-in-Arrive : goal.returns-in-Arrive
returns-in-Arrive c = λ events n kept.
    ap Some (c.current.ensures ∙ (kept c.in-Arrive.barrier).current) ∙ ap (cycle_in events n c.args.event.thread) (sym c.in-Arrive.is)

pub returns-in-Depart : goal.returns-in-Depart
returns-in-Depart c = λ events n kept.
    c.cycle.ensures ∙ (kept c.in-Depart.barrier).of c.args.event.thread ∙ ap (cycle_in events n c.args.event.thread) (sym c.in-Depart.is)

pub returns-in_default : goal.returns-in_default
returns-in_default c = λ events n kept.
    sym (cycle_in-none events n c.args.event.thread c.args.event.operation c.in_default.not-Arrive c.in_default.not-Depart)
