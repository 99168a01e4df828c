-- Of those so far none has acts that race.
use Rattle.std.proofs.Common.{◌≡◌, drop}
use Rattle.lrc_why_lines.specs.Racing.{first_remedy}
use Rattle.lrc_why_lines.proofs.opponents.push_first_remedy.Given as goal

abbrev pub invariant-loop-at : goal.invariant-loop-at
invariant-loop-at l = record {
  same : l.text.items ≡ l.fn.text.items;
  rest : first_remedy l.shown (drop l.at l.opponents) ≡ first_remedy l.shown l.opponents;
}
