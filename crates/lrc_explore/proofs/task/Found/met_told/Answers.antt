use Rattle.lrc_orders.specs.declared.search.Findings.{Findings}
use Rattle.lrc_explore.proofs.ManyStates.{has_met}
use Rattle.lrc_explore.proofs.task.Found.met_told.Goals as goal

pub stuck_met-requires-clause-stuck : goal.stuck_met-requires-clause-stuck
stuck_met-requires-clause-stuck c = c.requires.many.halted

pub trap_met-requires-clause-trap : goal.trap_met-requires-clause-trap
trap_met-requires-clause-trap c = c.requires.many.traps

pub returns-clause-met : goal.returns-clause-met
returns-clause-met c =
    let met : Findings = record { stuck = c.in_ok-stuck.stuck; trap = c.in_ok-trap.trap } in
    has_met c.args.task.now c.args.self.now c.args.races c.args.stuck c.args.trap c.requires.found c.requires.many met c.in_ok-stuck.ensures.stuck
    c.in_ok-trap.ensures.trap
