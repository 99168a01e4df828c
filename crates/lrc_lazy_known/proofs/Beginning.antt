-- Before the first act nothing is known.
use Rattle.std.proofs.Common.{◌≡◌, ℕ, [], sym, subst, arith}
use Rattle.lrc_trace.proofs.Positions.{Does-within}
use Rattle.lrc_trace.specs.Order.{HappensBefore}
use Rattle.lrc_lazy_known.specs.declared.known.Knowledge.{Knowledge}
use Rattle.lrc_lazy_known.specs.Knowing.{KnowsWrite}
use Rattle.lrc_lazy_known.specs.Word.{Describes}
use Rattle.lrc_lazy_known.specs.Effect.{word_of, IsKnowledgeOf}
use Rattle.lrc_lazy_known.proofs.Sets.{describes_nothing}

pub nothing_known : (nodes locks gone : ℕ) (knowledge : Knowledge) → ((word : ℕ) → word_of knowledge word ≡ [])
    → IsKnowledgeOf nodes locks gone [] knowledge
nothing_known nodes locks gone knowledge none word =
    subst (λ kept. Describes (HappensBefore []) (KnowsWrite nodes locks gone [] word) kept) (sym (none word))
    (describes_nothing (HappensBefore []) (KnowsWrite nodes locks gone [] word) (λ k i v h. let lt = Does-within h.write.1 in omega (arith, lt)))
