-- The segments so far agree, with one more, and all of them.
use Rattle.std.proofs.Common.{◌<◌, ◌∙◌, inl, inr, length, refl, ap, subst, sym, arith}
use Rattle.std.specs.Prelude.{slice_get}
use Rattle.std.proofs.lemmas.Bool.{cases_eq, cases_lt, false≢true}
use Rattle.std.proofs.lemmas.Option.{slice_get_within}
use Rattle.lrc_time.specs.Time.{Knows}
use Rattle.lrc_trace.specs.declared.trace.Segment.{Segment}
use Rattle.lrc_race.proofs.Segments.{segment_at, segment_is}
use Rattle.lrc_race.proofs.epochs.agrees_from.Goals as goal
use Rattle.lrc_race.proofs.epochs.agrees_from.Goals.{else-s-t-via-then-s-t+else-not-knows, else-s-t-via-else-s-t}

pub loop-k-preserved : goal.loop-k-preserved
loop-k-preserved c = λ m s low high found below.
    let k = c.loop-k.k in
    elim (cases_eq m k) [
      | inl same ↦
          let here = segment_is c.segments-segments.result.now c.args.a.now.segments k c.index-segments-k.result c.segments-segments.ensures.all
          c.index-segments-k.is s (ap (λ i. slice_get c.args.a.now.segments i) (sym same) ∙ found) in
          elim c.else-s-t.branch [
            | else-s-t-via-then-s-t+else-not-knows w ↦
                subst (λ (u : Segment). Knows c.args.t.now.time c.args.a.now.node u.interval) here
                (subst (λ node. Knows c.args.t.now.time node c.index-segments-k.result.interval) w.node.ensures (w.if-not-knows.ensures.0 refl))
            | else-s-t-via-else-s-t w ↦
                let not_below = w.if-s-t.false in
                let epoch = ap (λ (u : Segment). u.epoch) here in
                absurd (omega arith)
          ]
      | inr other ↦ c.loop-k.invariant m s low (omega arith) found below
    ]

pub returns-then-not-knows : goal.returns-then-not-knows
returns-then-not-knows c = (
  λ no. absurd (false≢true no),
  λ agrees. c.if-not-knows.ensures.1
      (subst (λ node. Knows c.args.t.now.time node c.index-segments-k.result.interval) (sym c.node.ensures)
      (agrees c.loop-k.k c.index-segments-k.result c.loop-k.auto.k
      (segment_at c.segments-segments.result.now c.args.a.now.segments c.loop-k.k c.index-segments-k.result c.segments-segments.ensures.all
      c.index-segments-k.is (subst (λ l. c.loop-k.k < length l) c.segments-segments.ensures.all c.loop-k-test.true)) c.if-s-t.true)),
)

pub returns-then-t-s : goal.returns-then-t-s
returns-then-t-s c = (
  λ _ m s low found below.
      let k = c.loop-k.k in
      elim (cases_lt m k) [
        | inl before ↦ c.loop-k.invariant m s low before found below
        | inr from ↦
            let rises = c.requires.rising c.if-rise.true k m c.index-segments-k.result s from
            (segment_at c.segments-segments.result.now c.args.a.now.segments k c.index-segments-k.result c.segments-segments.ensures.all
            c.index-segments-k.is (subst (λ l. k < length l) c.segments-segments.ensures.all c.loop-k-test.true)) found in
            let late = c.if-t-s.true in
            absurd (omega arith)
      ],
  λ _. refl,
)

pub returns : goal.returns
returns c = (
  λ _ m s low found below.
      let within = slice_get_within c.args.a.now.segments m s found in
      let long = ap length c.segments-segments.ensures.all in
      let end = c.loop-k-test.false in
      c.loop-k.invariant m s low (omega arith) found below,
  λ _. refl,
)
