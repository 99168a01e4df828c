-- Each `not` in front of an operand, the last one first.
use Rattle.std.proofs.Common.{◌≡◌, ℕ, List, [], ◌∷◌, ◌++◌, reverse, ap, ◌∙◌}
use Rattle.std.proofs.lemmas.List.{reverse-append}
use Rattle.lrc_named_tree.specs.Tree.{Expression, negation}
use Rattle.lrc_named_expression.specs.Partial.{negated}

pub negated_last : (all others : List ℕ) (last : ℕ) (e : Expression) → all ≡ others ++ last ∷ [] → negated (reverse all) e ≡ negated (reverse others) (negation last e)
negated_last all others last e q = ap (λ l. negated (reverse l) e) q ∙ ap (λ l. negated l e) (reverse-append others (last ∷ []))
