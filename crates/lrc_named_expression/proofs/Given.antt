-- What ends behind tokens that can stand is an expression.
use Rattle.std.proofs.Common.{◌≡◌, List, [], ◌∷◌, Option, Some, None, refl, sym, subst, ◌∙◌, append-nil}
use Rattle.lrc_named_tree.specs.Tree.{Expression}
use Rattle.lrc_named_tree.specs.Grammar.{Numbered, IsExpression}
use Rattle.lrc_named_expression.specs.Partial.{Partial, nothing, partial_with, value_of}
use Rattle.lrc_named_expression.specs.Run.{run}
use Rattle.lrc_named_expression.proofs.From.{Completes}
use Rattle.lrc_named_expression.proofs.Back.{back, ended, whole}
use Rattle.lrc_named_expression.proofs.Options.{some_same}
use Rattle.lrc_named_expression.proofs.Runs.{none_stays}
use Rattle.lrc_named_expression.proofs.Taken.{all_taken}

step_back : (x : Partial) (first : Numbered) (all : List Numbered) (next : Option Partial) {y : Partial} (e : Expression) →
    partial_with x first.index first.token ≡ next → run next all ≡ Some y →
    ((z : Partial) → run (Some z) all ≡ Some y → Completes z e all []) → Completes x e (first ∷ all) []
step_back x first all None e p q later = absurd (none_stays all q)
step_back x first all (Some z) e p q later = back x first.index first.token e all [] p (later z q)

run_back : (all : List Numbered) (x y : Partial) (e : Expression) → run (Some x) all ≡ Some y → value_of y ≡ Some e → Completes x e all []
run_back [] x y e q v = subst (λ z. Completes z e [] []) (sym (some_same q)) (ended y e [] v)
run_back (first ∷ all) x y e q v =
    step_back x first all (partial_with x first.index first.token) e refl q (λ z p. run_back all z y e p v)

pub all_given : (e : Expression) (all : List Numbered) (x : Partial) → run (Some nothing) all ≡ Some x → value_of x ≡ Some e → IsExpression e all []
all_given e all x q v = whole (run_back all nothing x e q v)

pub whole_taken : (e : Expression) (all : List Numbered) → IsExpression e all [] → (x : Partial) × (run (Some nothing) all ≡ Some x) × (value_of x ≡ Some e)
whole_taken e all d =
    let k = all_taken e all [] d in
    (k.1, subst (λ tokens. run (Some nothing) tokens ≡ Some k.1) (sym (k.2 ∙ append-nil k.0)) k.3, k.4)
