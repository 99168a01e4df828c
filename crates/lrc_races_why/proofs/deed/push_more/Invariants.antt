-- The words that are left follow those so far.
use Rattle.std.proofs.Common.{◌≡◌, ◌++◌, length}
use Rattle.std.specs.Prelude.{flat_map}
use Rattle.lrc_acts.specs.ActsText.{words_between}
use Rattle.lrc_races_why.specs.Deeds.{blank_and}
use Rattle.lrc_races_why.proofs.deed.push_more.Given as goal

abbrev pub invariant-loop-word : goal.invariant-loop-word
invariant-loop-word l = l.initial.text.items ++ flat_map blank_and (words_between l.words) ≡ l.text.items ++ flat_map blank_and (words_between l.left)

abbrev pub decreases-loop-word : goal.decreases-loop-word
decreases-loop-word l = length (words_between l.left)
