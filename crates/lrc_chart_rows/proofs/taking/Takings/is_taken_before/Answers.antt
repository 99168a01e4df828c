use Rattle.std.proofs.Common.{length, subst}
use Rattle.lrc_chart_rows.specs.Takings.{IsSpan, name_of}
use Rattle.lrc_chart_rows.proofs.Spanning.{none_before, some_before, span_of}
use Rattle.lrc_chart_rows.proofs.taking.Takings.is_taken_before.Goals as goal

pub returns-in-Some : goal.returns-in-Some
returns-in-Some c = λ turns are.
    some_before turns c.args.envelope.now c.args.position c.in-Some.span
    (subst (IsSpan turns (length turns) (name_of c.args.envelope.now)) c.in-Some.is
    (span_of turns c.args.self.now c.args.envelope.now c.span.result are c.span.ensures))

pub returns-in-None : goal.returns-in-None
returns-in-None c = λ turns are.
    none_before turns c.args.envelope.now c.args.position
    (subst (IsSpan turns (length turns) (name_of c.args.envelope.now)) c.in-None.is
    (span_of turns c.args.self.now c.args.envelope.now c.span.result are c.span.ensures))
