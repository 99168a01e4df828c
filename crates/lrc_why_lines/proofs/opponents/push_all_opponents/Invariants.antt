-- What was added so far.
use Rattle.std.proofs.Common.{◌≡◌, ◌++◌, take}
use Rattle.std.specs.List.{flat_map}
use Rattle.lrc_why_lines.specs.Racing.{opponent_text}
use Rattle.lrc_why_lines.proofs.opponents.push_all_opponents.Given as goal

abbrev pub invariant-loop-opponent : goal.invariant-loop-opponent
invariant-loop-opponent l = l.text.items ≡ l.fn.text.items ++ flat_map (opponent_text l.shown) (take l.opponent-index l.opponents)
