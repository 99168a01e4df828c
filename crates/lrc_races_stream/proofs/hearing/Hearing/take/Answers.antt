-- A block is taken, and all is told, or nothing is.
use Rattle.std.proofs.Common.{Bool, subst}
use Rattle.lrc_races_front.specs.Steps.{HasGoneOn}
use Rattle.lrc_races_stream.proofs.HearingLemmas.{any_sought, take_told, untold}
use Rattle.lrc_races_stream.proofs.hearing.Hearing.take.Goals as goal

pub returns-clause-heard : goal.returns-clause-heard
returns-clause-heard g c =
    take_told c.args.self.now c.tell.new.self (g.E.Write.contents c.args.err.now) (g.E.Write.contents c.tell.new.err) c.tell.result c.take.new.self c.args.block.now
    (subst (λ (come : Bool). HasGoneOn any_sought c.args.self.now.front c.args.block.now c.take.new.self come) c.in-Ok-false.field-0-test
    c.in-Ok-false.ensures.ok) c.tell.ensures

pub returns-clause-untold : goal.returns-clause-untold
returns-clause-untold g c =
    untold c.take.new.self.kept (record c.args.self.now { front = c.take.new.self }) c.tell.new.self (g.E.Write.contents c.args.err.now)
    (g.E.Write.contents c.tell.new.err) c.tell.result c.tell.ensures
