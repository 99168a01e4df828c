use Rattle.std.proofs.Common.{ap, refl}
use Rattle.std.specs.Prelude.{Some, slice_set}
use Rattle.lrc_timeline.proofs.Growing.{one_more, one_time_more}
use Rattle.lrc_timeline.proofs.timeline.Timeline.push.Goals as goal

pub returns-clause-line : goal.returns-clause-line
returns-clause-line c acts is =
    let place = c.in_ok-place.place in
    one_more c.args.node c.args.time.now c.args.self.now c.place_for.new.self _ place c.requires c.in_ok-place.ensures refl c.in_ok-push.ensures.items
    (ap (λ n. slice_set c.place_for.new.self.newest n (Some place)) c.from.ensures) acts is

pub returns-clause-times : goal.returns-clause-times
returns-clause-times c = one_time_more c.push.new.self.items c.in_ok-place.ensures c.in_ok-push.ensures.items
