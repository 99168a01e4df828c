use Rattle.std.proofs.Common.{◌≢◌, refl, sym, arith}
use Rattle.std.specs.Prelude.{Contains}
use Rattle.std.proofs.lemmas.Bool.{false≢true}
use Rattle.lrc_trace.specs.Trace.{TraceRecord}
use Rattle.lrc_race.specs.Epochs.{AgreesBetween}
use Rattle.lrc_race.proofs.Found.{each-more, each-all}
use Rattle.lrc_race.proofs.epochs.epochs_agree.Goals as goal

pub returns-then-not-agrees_with_all : goal.returns-then-not-agrees_with_all
returns-then-not-agrees_with_all c =
    let b = c.b-item.result in (
      λ no. absurd (false≢true no),
      λ agree. c.if-not-agrees_with_all.ensures.1 (λ a there apart. agree a b there (c.loop-b.b-index, c.loop-b-test.true, sym c.b-item.is) apart),
    )

pub loop-b-preserved : goal.loop-b-preserved
loop-b-preserved c =
    let P = λ (b : TraceRecord). (a : TraceRecord) → Contains c.args.traces.now a → a.node ≢ b.node → AgreesBetween a b in
    each-more P c.args.traces.now c.loop-b.b-index c.b-item.result c.loop-b-test.true c.b-item.is c.loop-b.invariant
    (c.if-not-agrees_with_all.ensures.0 refl)

pub returns : goal.returns
returns c =
    let P = λ (b : TraceRecord). (a : TraceRecord) → Contains c.args.traces.now a → a.node ≢ b.node → AgreesBetween a b in (
      λ yes a b a_in b_in apart. each-all P c.args.traces.now c.loop-b.b-index (omega arith) c.loop-b.invariant b b_in a a_in apart,
      λ agree. refl,
    )
