-- One line more is added, and all.
use Rattle.std.proofs.lemmas.Option.{slice_get-get_or}
use Rattle.lrc_races_scored.specs.Spelled.{event_line}
use Rattle.lrc_races_scored.proofs.Adding.{lines_all, lines_more, lines_none}
use Rattle.lrc_races_scored.proofs.spelling.push_events.Goals as goal

pub loop-line-init : goal.loop-line-init
loop-line-init c = lines_none event_line c.args.lines.now c.args.text.now.items

pub loop-line-preserved : goal.loop-line-preserved
loop-line-preserved c =
    let i = c.loop-line.line-index in
    lines_more event_line c.args.lines.now c.args.text.now.items i _ c.loop-line.text.items c.push_event.new.text.items
    (slice_get-get_or c.args.lines.now i _ c.loop-line-test.true) c.loop-line.invariant c.in_ok-push_event.ensures

pub returns : goal.returns
returns c =
    lines_all event_line c.args.lines.now c.args.text.now.items c.loop-line.line-index c.loop-line.text.items c.loop-line-test.false
    c.loop-line.invariant
