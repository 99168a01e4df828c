-- The tokens of an expression can all stand.
use Rattle.std.proofs.Common.{◌≡◌, ℕ, List, [], ◌∷◌, ◌++◌, Some, refl, sym, ap, subst}
use Rattle.lrc_named_tokens.specs.Token.{Token}
use Rattle.lrc_named_tree.specs.Tree.{Expression}
use Rattle.lrc_named_tree.specs.Grammar.{Numbered, on, IsExpression}
use Rattle.lrc_named_expression.specs.Partial.{Partial, nothing, partial_with, value_of}
use Rattle.lrc_named_expression.specs.Run.{run}
use Rattle.lrc_named_expression.proofs.From.{Completes}
use Rattle.lrc_named_expression.proofs.Turns.{Turns, goes, ends, turns}
use Rattle.lrc_named_expression.proofs.Back.{from_whole}
use Rattle.lrc_named_expression.proofs.Stops.{tail_same, nil_not_cons}

abbrev Taken : Partial → Expression → List Numbered → List Numbered → Type 0
Taken x e all rest = (front : List Numbered) × (y : Partial) × (all ≡ front ++ rest) × (run (Some x) front ≡ Some y) × (value_of y ≡ Some e)

turn_taken : (x : Partial) {e : Expression} {all rest : List Numbered} →
    ((i : ℕ) (t : Token) (more : List Numbered) (y : Partial) → all ≡ on i t ∷ more → Completes y e more rest → Taken y e more rest) →
    Turns (partial_with x) (value_of x) e all rest → Taken x e all rest
turn_taken x later (goes {i = i} {t = t} {all = more} y q k) =
    let r = later i t more y refl k in
    (on i t ∷ r.0, r.1, ap (λ l. on i t ∷ l) r.2, subst (λ o. run o r.0 ≡ Some r.1) (sym q) r.3, r.4)
turn_taken x later (ends v r) = ([], x, r, refl, v)

taken : (all : List Numbered) (x : Partial) {e : Expression} {rest : List Numbered} → Completes x e all rest → Taken x e all rest
taken [] x k = turn_taken x (λ i t more y q a. absurd (nil_not_cons q)) (turns x k)
taken (first ∷ all) x {e} {rest} k =
    turn_taken x
    (λ i t more y q a.
    subst (λ m. Taken y e m rest) (tail_same q) (taken all y (subst (λ m. Completes y e m rest) (sym (tail_same q)) a)))
    (turns x k)

pub all_taken : (e : Expression) (all rest : List Numbered) → IsExpression e all rest →
    (front : List Numbered) × (x : Partial) × (all ≡ front ++ rest) × (run (Some nothing) front ≡ Some x) × (value_of x ≡ Some e)
all_taken e all rest d = taken all nothing (from_whole d)
