-- The words of the line.
use Rattle.lrc_races_scored.proofs.Saying.{five_said}
use Rattle.lrc_races_scored.proofs.spelling.push_places.Goals as goal

pub returns : goal.returns
returns c =
    five_said c.push_two-3.result c.args.text.now.items c.push_two.new.text.items c.push_two-2.new.text.items c.push_two-3.new.text.items _ _ _ _ _ _ _
    c.place_name-place.ensures c.place_name-other.ensures c.in_ok-push_two.ensures c.in_ok-push_two-2.ensures c.push_two-3.ensures
