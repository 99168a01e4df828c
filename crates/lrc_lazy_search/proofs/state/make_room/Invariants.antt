-- What is kept of each word is the same, and there is no more room than for the word.
use Rattle.std.proofs.Common.{◌≡◌, ℕ, ◌+◌, ◌-◌, ◌≤◌, length}
use Rattle.std.specs.Prelude.{max}
use Rattle.lrc_lazy_known.specs.Effect.{word_of}
use Rattle.lrc_lazy_search.proofs.state.make_room.Given as goal

abbrev pub invariant-loop-alloc : goal.invariant-loop-alloc
invariant-loop-alloc l = record {
  same : (w : ℕ) → word_of l.knowledge w ≡ word_of l.initial.knowledge w;
  low : length l.initial.knowledge.words.items ≤ length l.knowledge.words.items;
  high : length l.knowledge.words.items ≤ max (length l.initial.knowledge.words.items) (l.word + 1);
}

abbrev pub decreases-loop-alloc : goal.decreases-loop-alloc
decreases-loop-alloc l = l.word + 1 - length l.knowledge.words.items
