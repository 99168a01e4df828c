-- The words of the line.
use Rattle.lrc_races_scored.proofs.Saying.{three_said}
use Rattle.lrc_races_scored.proofs.spelling.push_event.Goals as goal

pub returns : goal.returns
returns c =
    three_said c.push_two.result c.args.text.now.items c.push_number.new.text.items c.push_two.new.text.items _ _ _ c.in_ok-push_number.ensures.ok
    c.push_two.ensures
