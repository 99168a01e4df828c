-- What came so far is mixed.
use Rattle.std.proofs.Common.{◌≡◌, fold, take}
use Rattle.lrc_lazy_search.specs.CommonHash.{mix, mixed_word}
use Rattle.lrc_lazy_search.proofs.parts.mixed.Given as goal

abbrev pub invariant-loop-count : goal.invariant-loop-count
invariant-loop-count l = l.all ≡ fold mix 0 (take l.count-index l.common.arrivals.items)

abbrev pub invariant-loop-word : goal.invariant-loop-word
invariant-loop-word l = l.all ≡ fold mixed_word (fold mix 0 l.common.arrivals.items) (take l.word-index l.common.knowledge.words.items)
