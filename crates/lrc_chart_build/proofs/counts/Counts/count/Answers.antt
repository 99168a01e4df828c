use Rattle.std.proofs.Common.{rules, ◌≡◌, ◌∙◌, ◌+◌, ℕ, List, Bool, ap, get_or, length, slice_index, slice_set}
use Rattle.lrc_trace.specs.declared.act.Act.{Act}
use Rattle.lrc_trace.specs.Interval.{closes}
use Rattle.lrc_trace.specs.Run.{is_arrive, is_depart}
use Rattle.lrc_chart_build.proofs.Counting.{next_more, no_act, once}
use Rattle.lrc_chart_build.proofs.counts.Counts.count.Goals as goal

pub returns-clause-counts : goal.returns-clause-counts
returns-clause-counts c =
    let acts = c.args.acts.now in
    let k = c.args.position in
    let old = c.args.self.now in
    let act : Act = get_or acts k no_act in
    let set_if : List ℕ → Bool → List ℕ = λ numbers counts. slice_set numbers act.node (slice_index numbers act.node + once counts) in
    let all_intervals : length old.intervals ≡ 256 = search rules in
    let all_arrivals : length old.arrivals ≡ 256 = search rules in
    let all_departures : length old.departures ≡ 256 = search rules in
    let few = c.add_if.ensures.in_range in
    record {
      intervals = next_more closes acts k no_act old.intervals c.add_if.new.numbers c.requires.within all_intervals few
          (c.add_if.ensures.is ∙ ap (set_if old.intervals) c.closes_interval.ensures) c.requires.counts.intervals;
      arrivals = next_more is_arrive acts k no_act old.arrivals c.add_if-2.new.numbers c.requires.within all_arrivals few
          (c.add_if-2.ensures.is ∙ ap (set_if old.arrivals) c.is_arrive.ensures) c.requires.counts.arrivals;
      departures = next_more is_depart acts k no_act old.departures c.add_if-3.new.numbers c.requires.within all_departures few
          (c.add_if-3.ensures.is ∙ ap (set_if old.departures) c.is_depart.ensures) c.requires.counts.departures;
    }
