-- The words before those that are left give no option a number out of its range.
use Rattle.std.proofs.Common.{◌≡◌, length, map}
use Rattle.lrc_more_words.specs.Number.{number_out}
use Rattle.lrc_more_words.proofs.number.number_out.Given as goal

abbrev pub invariant-loop-word : goal.invariant-loop-word
invariant-loop-word g l = number_out (map g.S.AsStr.text l.left) ≡ number_out (map g.S.AsStr.text l.words)

abbrev pub decreases-loop-word : goal.decreases-loop-word
decreases-loop-word g l = length l.left
