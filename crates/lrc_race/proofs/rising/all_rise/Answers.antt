use Rattle.std.proofs.Common.{◌∙◌, refl, sym, arith}
use Rattle.std.specs.Prelude.{Contains}
use Rattle.std.proofs.lemmas.Bool.{false≢true}
use Rattle.lrc_race.specs.Races.{RisesAlong}
use Rattle.lrc_race.proofs.Found.{each-more, each-all}
use Rattle.lrc_race.proofs.rising.all_rise.Goals as goal

pub times_rise-requires : goal.times_rise-requires
times_rise-requires c =
    let trace = c.trace-item.result in
    (c.requires.0, λ s there. c.requires.1.entries trace s (c.loop-trace.trace-index, c.loop-trace-test.true, sym c.trace-item.is) there)

pub loop-trace-preserved : goal.loop-trace-preserved
loop-trace-preserved c =
    each-more RisesAlong c.args.traces.now c.loop-trace.trace-index c.trace-item.result c.loop-trace-test.true c.trace-item.is
    c.loop-trace.invariant (c.times_rise.ensures.0 c.if-not-times_rise.false)

pub returns-then-not-times_rise : goal.returns-then-not-times_rise
returns-then-not-times_rise c =
    let there : Contains c.args.traces.now c.trace-item.result = (c.loop-trace.trace-index, c.loop-trace-test.true, sym c.trace-item.is) in (
      λ no. absurd (false≢true no),
      λ all. absurd (false≢true (sym c.if-not-times_rise.true ∙ c.times_rise.ensures.1 (all c.trace-item.result there))),
    )

pub returns : goal.returns
returns c =
    (λ yes. each-all RisesAlong c.args.traces.now c.loop-trace.trace-index (omega arith) c.loop-trace.invariant, λ all. refl)
