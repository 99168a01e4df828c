-- The words of a line, one after another.
use Rattle.lrc_races_claims.proofs.Saying.{line_said}
use Rattle.lrc_races_claims.proofs.spelling.push_line.Goals as goal

pub returns : goal.returns
returns c =
    line_said c.push_three-2.result c.args.text.now.items c.push_number.new.text.items c.push_three.new.text.items c.push_verdict.new.text.items
    c.push_three-2.new.text.items _ _ _ _ _ c.in_ok-push_number.ensures.ok c.in_ok-push_three.ensures c.in_ok-push_verdict.ensures c.push_three-2.ensures
