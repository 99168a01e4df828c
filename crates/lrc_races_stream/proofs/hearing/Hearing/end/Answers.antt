-- The trace has ended, and all is told, or nothing is.
use Rattle.std.proofs.Common.{Bool, subst}
use Rattle.lrc_races_front.specs.Steps.{HasEnded}
use Rattle.lrc_races_stream.proofs.HearingLemmas.{any_sought, end_told, untold}
use Rattle.lrc_races_stream.proofs.hearing.Hearing.end.Goals as goal

pub returns-clause-heard : goal.returns-clause-heard
returns-clause-heard g c =
    end_told c.args.self.now c.tell.new.self (g.E.Write.contents c.args.err.now) (g.E.Write.contents c.tell.new.err) c.tell.result c.end.new.self
    (subst (λ (come : Bool). HasEnded any_sought c.args.self.now.front c.end.new.self come) c.in-Ok-false.field-0-test c.in-Ok-false.ensures.ok)
    c.tell.ensures

pub returns-clause-untold : goal.returns-clause-untold
returns-clause-untold g c =
    untold c.end.new.self.kept (record c.args.self.now { front = c.end.new.self }) c.tell.new.self (g.E.Write.contents c.args.err.now)
    (g.E.Write.contents c.tell.new.err) c.tell.result c.tell.ensures
