use Rattle.std.proofs.Common.{subst, sym}
use Rattle.lrc_world.specs.Driven.{IsDrivenBy, schedule_of}
use Rattle.lrc_world.specs.Rounds.{at_node}
use Rattle.lrc_world.proofs.Driven.{idle_if}
use Rattle.lrc_world.proofs.rounds.Driver.lead.Goals as goal

pub returns-in-Rounds-clause-goes : goal.returns-in-Rounds-clause-goes
returns-in-Rounds-clause-goes c =
    subst (λ lead. IsDrivenBy (schedule_of c.args.nodes lead) c.args.self.now c.drive.new.self c.drive.result) (sym c.in-Rounds.is)
    (at_node 0, c.drive.ensures.goes)

pub returns-in-Rounds-clause-over : goal.returns-in-Rounds-clause-over
returns-in-Rounds-clause-over c = idle_if c.args.nodes c.drive.new.self c.drive.result c.drive.ensures.over

pub returns-in-Random-clause-goes : goal.returns-in-Random-clause-goes
returns-in-Random-clause-goes c =
    subst (λ lead. IsDrivenBy (schedule_of c.args.nodes lead) c.args.self.now c.wander.new.self c.wander.result) (sym c.in-Random.is)
    c.wander.ensures.goes
