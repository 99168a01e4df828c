-- The words so far are as they should be.
use Rattle.lrc_lazy_known.specs.Made.{AreEach}
use Rattle.lrc_lazy_known.specs.Word.{IsWithout}
use Rattle.lrc_lazy_known.specs.Effect.{word_of}
use Rattle.lrc_lazy_known.specs.Tidy.{IsTidy, IsTidyWord}
use Rattle.lrc_lazy_known.proofs.known.Knowledge.without.Given as goal

abbrev pub invariant-loop-word : goal.invariant-loop-word
invariant-loop-word l = record {
  made : AreEach (λ w x. IsWithout l.first l.dropped (word_of l.self w) x.knowers.items) l.words.items l.word;
  tidy : AreEach (λ w x. IsTidy l.self → IsTidyWord x.knowers.items) l.words.items l.word;
}
