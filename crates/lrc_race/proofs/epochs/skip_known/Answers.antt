-- One segment more is known.
use Rattle.std.proofs.Common.{◌∙◌, inl, inr, refl, ap, subst, sym, arith}
use Rattle.std.specs.Prelude.{slice_get}
use Rattle.std.proofs.lemmas.Bool.{cases_eq}
use Rattle.lrc_time.specs.Time.{Knows}
use Rattle.lrc_trace.specs.declared.trace.Segment.{Segment}
use Rattle.lrc_race.proofs.Segments.{segment_is}
use Rattle.lrc_race.proofs.epochs.skip_known.Goals as goal

pub loop-start-preserved : goal.loop-start-preserved
loop-start-preserved c = record {
  within = omega arith;
  known = λ k s below found.
      let start = c.loop-start.start in
      let read = c.index-segments-start.result in
      elim (cases_eq k start) [
        | inl same ↦
            let here = segment_is c.segments-segments.result.now c.args.a.now.segments start read c.segments-segments.ensures.all
            c.index-segments-start.is s (ap (λ i. slice_get c.args.a.now.segments i) (sym same) ∙ found) in
            subst (λ (u : Segment). Knows c.args.t.now.time c.args.a.now.node u.interval) here
            (subst (λ node. Knows c.args.t.now.time node read.interval) c.node.ensures (c.if-knows.ensures.0 refl))
        | inr other ↦ c.loop-start.invariant.known k s (omega arith) found
      ];
}
