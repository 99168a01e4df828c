-- The words of the positions so far are added.
use Rattle.std.proofs.Common.{take}
use Rattle.lrc_judge.specs.Adding.{Adds, IsOfSome}
use Rattle.lrc_why_chains.specs.Writes.{IsWrite}
use Rattle.lrc_why.proofs.positions.add_words.Given as goal

abbrev pub invariant-loop-k : goal.invariant-loop-k
invariant-loop-k l = Adds l.fn.words.items l.words.items (IsOfSome (take l.k-index l.positions) (λ k word. IsWrite l.acts word k))
