use Rattle.std.proofs.Common.{◌≡◌, ◌∙◌, arith, ap, sym}
use Rattle.lrc_protocol.specs.declared.event.Event.TheVariants as events
use Rattle.lrc_world.proofs.Driven.{passed_over, runs_one}
use Rattle.lrc_world.proofs.rounds.Driver.run_if_ready.Goals as goal

pub returns-then-not-is_ready-clause-goes : goal.returns-then-not-is_ready-clause-goes
returns-then-not-is_ready-clause-goes c = λ picker nodes below.
    passed_over picker nodes c.args.node c.args.self.now below (λ starts run shows. sym (c.is_ready.ensures starts run shows) ∙ c.if-not-is_ready.true)

pub returns-clause-goes : goal.returns-clause-goes
returns-clause-goes c = λ picker nodes below.
    let same : c.args.node ≡ c.from.result = omega (arith, c.from.ensures) in
    runs_one picker nodes c.args.self.now c.play.new.self _ c.play.result c.play.ensures c.args.node below (ap events.Run same)
    (λ starts run shows. sym (c.is_ready.ensures starts run shows) ∙ c.if-not-is_ready.false)
