-- The words of the line.
use Rattle.std.proofs.Common.{refl}
use Rattle.lrc_races_scored.proofs.Saying.{five_said}
use Rattle.lrc_races_scored.proofs.spelling.push_pair.Goals as goal

pub returns : goal.returns
returns c =
    five_said c.push_two.result c.args.text.now.items c.push_number.new.text.items c.push_number-2.new.text.items c.push_two.new.text.items _ _ _ _ _ _ _ refl refl
    c.in_ok-push_number.ensures.ok c.in_ok-push_number-2.ensures.ok c.push_two.ensures
