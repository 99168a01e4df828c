-- The words of the line.
use Rattle.lrc_races_scored.proofs.Saying.{eleven_said}
use Rattle.lrc_races_scored.proofs.spelling.push_tally.Goals as goal

pub returns : goal.returns
returns c =
    eleven_said c.push_two-2.result c.args.text.now.items c.push_two.new.text.items c.push_number.new.text.items c.push_number-2.new.text.items
    c.push_number-3.new.text.items c.push_number-4.new.text.items c.push_two-2.new.text.items _ _ _ _ _ _ _ _ _ _ _ _ c.word.ensures
    c.in_ok-push_two.ensures c.in_ok-push_number.ensures.ok c.in_ok-push_number-2.ensures.ok c.in_ok-push_number-3.ensures.ok
    c.in_ok-push_number-4.ensures.ok c.push_two-2.ensures
