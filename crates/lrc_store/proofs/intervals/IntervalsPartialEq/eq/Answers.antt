use Rattle.std.proofs.Common.{◌≡◌, ◌∙◌, sym, rules}
use Rattle.std.specs.Cmp.Lexicographic.{pointwise}
use Rattle.lrc_store.specs.Interval.{same_interval}
use Rattle.lrc_store.proofs.IntervalLists.{same_intervals}
use Rattle.lrc_store.proofs.intervals.IntervalsPartialEq.eq.Goals as goal

pub returns-clause-same : goal.returns-clause-same
returns-clause-same c =
    let is : c.eq.result ≡ pointwise same_interval c.args.self.now c.args.other.now = search rules in
    let decides = same_intervals c.args.self.now c.args.other.now in
    (λ holds. decides.0 (sym is ∙ holds), λ equal. is ∙ decides.1 equal)
