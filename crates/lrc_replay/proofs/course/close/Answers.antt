use Rattle.std.proofs.Common.{◌≡◌, ◌<◌, true, false, rules, refl}
use Rattle.lrc_trace.specs.Interval.{closes}
use Rattle.lrc_replay.proofs.Coursing.{closed_long, closed_more, closed_same, on_ok}
use Rattle.lrc_replay.proofs.course.close.Goals as goal

pub returns-then-closes : goal.returns-then-closes
returns-then-closes c acts are =
    let does : closes c.args.act.deed ≡ true = search rules in
    let few : c.args.act.node < 256 = search rules in
    on_ok c.open_next.result (c.open_next.ensures (closed_long acts c.args.closed.now.items are))
    (λ is. closed_more acts c.args.act c.args.closed.now.items _ are does few is)

pub returns : goal.returns
returns c acts are =
    let does_not : closes c.args.act.deed ≡ false = search rules in
    closed_same acts c.args.act c.args.closed.now.items c.args.closed.now.items are does_not refl
