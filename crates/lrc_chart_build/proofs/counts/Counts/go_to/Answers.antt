use Rattle.std.proofs.Common.{rules, ◌≡◌, ◌∙◌, arith, length, sym}
use Rattle.std.specs.Prelude.{min}
use Rattle.lrc_trace.specs.Interval.{closes}
use Rattle.lrc_trace.specs.Run.{is_arrive, is_depart}
use Rattle.lrc_chart_build.proofs.Counting.{next_at, next_past}
use Rattle.lrc_chart_build.proofs.counts.Counts.go_to.Goals as goal

pub loop-place-init : goal.loop-place-init
loop-place-init c = record {
  counts = c.go_back.ensures.counts c.args.acts.now c.requires;
  within = c.go_back.ensures.position;
  last = search rules;
}

pub returns-clause-counts : goal.returns-clause-counts
returns-clause-counts c =
    let acts = c.args.acts.now in
    let position = c.args.position in
    let was = c.loop-place.invariant in
    let all : c.loop-place.place ≡ min position (length acts) = omega (arith, was.within, was.last, c.loop-place-test.false) in
    record {
      intervals = next_past closes acts position _ (next_at closes acts _ _ _ all was.counts.intervals);
      arrivals = next_past is_arrive acts position _ (next_at is_arrive acts _ _ _ all was.counts.arrivals);
      departures = next_past is_depart acts position _ (next_at is_depart acts _ _ _ all was.counts.departures);
    }

pub returns-clause-here : goal.returns-clause-here
returns-clause-here c =
    let acts = c.args.acts.now in
    let was = c.loop-place.invariant in
    let all : c.loop-place.place ≡ min c.args.position (length acts) = omega (arith, was.within, was.last, c.loop-place-test.false) in
    let last = all ∙ sym was.last in
    record {
      intervals = next_at closes acts _ _ _ last was.counts.intervals;
      arrivals = next_at is_arrive acts _ _ _ last was.counts.arrivals;
      departures = next_at is_depart acts _ _ _ last was.counts.departures;
    }
