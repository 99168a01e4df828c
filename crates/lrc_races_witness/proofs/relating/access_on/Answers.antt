-- The first event on the line is the one.
use Rattle.std.proofs.Common.{inl, inr, subst, arith}
use Rattle.std.proofs.lemmas.Bool.{cases_eq}
use Rattle.std.proofs.lemmas.Option.{slice_get-get_or}
use Rattle.lrc_races_trace.specs.Trace.{At}
use Rattle.lrc_races_trace.proofs.Positions.{At-within}
use Rattle.lrc_races_witness.proofs.Lines.{found, not_here}
use Rattle.lrc_races_witness.proofs.relating.access_on.Goals as goal

pub returns-then-event-line : goal.returns-then-event-line
returns-then-event-line c =
    let events = c.args.events.now in
    let n = c.loop-position.position in
    found events c.requires n c.args.line _ (record { is = slice_get-get_or events n _ c.loop-position-test.true }) c.if-event-line.true
    c.access_of.result c.access_of.ensures

pub loop-position-preserved : goal.loop-position-preserved
loop-position-preserved c = λ k e lt at on.
    elim (cases_eq k c.loop-position.position) [
      | inl same ↦ not_here c.args.events.now c.loop-position.position _ c.loop-position-test.true c.args.line c.if-event-line.false e
          (subst (λ m. At c.args.events.now m e) same at) on
      | inr other ↦ c.loop-position.invariant k e (omega arith) at on
    ]

pub returns : goal.returns
returns c = λ p v e is.
    let past = c.loop-position-test.false in
    let within = At-within is.at in
    c.loop-position.invariant p e (omega arith) is.at is.on
