-- All bytes before are digits.
use Rattle.std.proofs.Common.{ℕ, ◌<◌, get_or}
use Rattle.lrc_races_text.specs.Acts.{IsDigit}
use Rattle.lrc_races_text.proofs.acts.split_digits.Given as goal

abbrev pub invariant-loop-at : goal.invariant-loop-at
invariant-loop-at l = (k : ℕ) → k < l.at → IsDigit (get_or l.text k 0)
