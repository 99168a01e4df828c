use Rattle.std.proofs.Common.{◌≡◌, ℕ, take}
use Rattle.std.specs.Prelude.{None, if◌then◌else◌}
use Rattle.lrc_exact.specs.Rule.{change_of}
use Rattle.lrc_exact_copies.specs.Copies.{before_of, word_in}
use Rattle.lrc_exact_copies.specs.Made.{change_in, has}
use Rattle.lrc_exact_copies.proofs.changes.changes_of.Given as goal

-- the changes of the words so far
abbrev pub invariant-loop-word : goal.invariant-loop-word
invariant-loop-word l = (w : ℕ) → change_in l.changes.items w
    ≡ (if has (take l.word-index l.words_written) w then change_of (before_of l.index (word_in l.words w)) (word_in l.words w).value else None)
