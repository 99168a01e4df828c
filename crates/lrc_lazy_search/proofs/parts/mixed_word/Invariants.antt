-- What came so far is mixed in.
use Rattle.std.proofs.Common.{◌≡◌, fold, take}
use Rattle.lrc_lazy_search.specs.CommonHash.{mixed_known}
use Rattle.lrc_lazy_search.proofs.parts.mixed_word.Given as goal

abbrev pub invariant-loop-known : goal.invariant-loop-known
invariant-loop-known l = l.mixed ≡ fold mixed_known l.initial.all (take l.known-index l.word.knowers.items)
