-- Tokens of which each can stand begin an expression.
use Rattle.std.proofs.Common.{◌≡◌, ℕ, ◌+◌, List, [], ◌∷◌, ◌++◌, Option, Some, None, refl}
use Rattle.lrc_named_tokens.specs.Token.{Token}
use Rattle.lrc_named_tree.specs.Tree.{Expression}
use Rattle.lrc_named_tree.specs.Grammar.{Numbered, numbered, IsExpression}
use Rattle.lrc_named_expression.specs.Partial.{Partial, nothing, partial_with}
use Rattle.lrc_named_expression.specs.Run.{run}
use Rattle.lrc_named_expression.proofs.Options.{none_some}
use Rattle.lrc_named_expression.proofs.From.{Completes}
use Rattle.lrc_named_expression.proofs.Back.{back, whole}
use Rattle.lrc_named_expression.proofs.Completed.{completion, completed}

pub none_stays : (all : List Numbered) {y : Partial} → run None all ≡ Some y → ⊥
none_stays [] q = none_some q
none_stays (first ∷ more) q = none_some q

-- the tokens, and more behind them, complete what has come
abbrev GoesOn : ℕ → Partial → List Token → Type 0
GoesOn n x tokens = (more : List Token) × (e : Expression) × (m : ℕ) × Completes x e (numbered n (tokens ++ more)) (numbered m [])

step_on : (n : ℕ) (x : Partial) (t : Token) (tokens : List Token) (next : Option Partial) {y : Partial} → partial_with x n t ≡ next →
    run next (numbered (n + 1) tokens) ≡ Some y →
    ((z : Partial) → run (Some z) (numbered (n + 1) tokens) ≡ Some y → GoesOn (n + 1) z tokens) → GoesOn n x (t ∷ tokens)
step_on n x t tokens None p q later = absurd (none_stays (numbered (n + 1) tokens) q)
step_on n x t tokens (Some z) p q later =
    let k = later z q in
    (k.0, k.1, k.2, back x n t k.1 (numbered (n + 1) (tokens ++ k.0)) (numbered k.2 []) p k.3)

goes_on : (n : ℕ) (x : Partial) (tokens : List Token) {y : Partial} → run (Some x) (numbered n tokens) ≡ Some y → GoesOn n x tokens
goes_on n x [] q =
    let k = completed n x [] in
    (completion x [], k.0, k.1, k.2)
goes_on n x (t ∷ tokens) q = step_on n x t tokens (partial_with x n t) refl q (λ z p. goes_on (n + 1) z tokens p)

pub begins : (n : ℕ) (tokens : List Token) (y : Partial) → run (Some nothing) (numbered n tokens) ≡ Some y →
    (more : List Token) × (e : Expression) × IsExpression e (numbered n (tokens ++ more)) []
begins n tokens y q =
    let k = goes_on n nothing tokens q in
    (k.0, k.1, whole k.3)
