use Rattle.std.proofs.Common.{◌≡◌, ◌∙◌, ◌++◌, ◌∷◌, [], ℕ, List, ap, arith}
use Rattle.std.specs.Prelude.{replicate}
use Rattle.std.proofs.lemmas.List.{replicate_more}
use Rattle.std.proofs.lemmas.Result.{IfOk-from_err}
use Rattle.lrc_mail.proofs.mail.none_taken.Goals as goal

pub returns-in_err-taken : goal.returns-in_err-taken
returns-in_err-taken c = IfOk-from_err _ _ c.from_residual.ensures.0

pub loop-init : goal.loop-init
loop-init c = c.in_ok-taken.ensures.items

pub returns-in_err-push : goal.returns-in_err-push
returns-in_err-push c = IfOk-from_err _ _ c.from_residual-in_err-push.ensures.0

pub loop-preserved : goal.loop-preserved
loop-preserved c =
    c.in_ok-push.ensures.items
    ∙ ap (λ (numbers : List ℕ). c.loop.taken.items ++ numbers ∷ []) c.empty.ensures
    ∙ ap (λ (taken : List (List ℕ)). taken ++ [] ∷ []) c.loop.invariant
    ∙ replicate_more c.loop.counter []

pub returns : goal.returns
returns c =
    let all : c.loop.counter ≡ c.args.nodes = omega (arith, c.loop-test.false, c.loop.auto.counter-end) in
    c.loop.invariant ∙ ap (λ n. replicate n []) all
