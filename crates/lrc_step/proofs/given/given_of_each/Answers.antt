use Rattle.std.proofs.Common.{◌≡◌, ◌∙◌, ◌<◌, ℕ, Option, Some, get_or, arith, length, subst, sym}
use Rattle.std.specs.Prelude.{slice_get}
use Rattle.std.proofs.lemmas.Option.{same_Some, slice_get-get_or}
use Rattle.lrc_why.specs.Spread.{OfEach}
use Rattle.lrc_why.proofs.Lists.{each-push}
use Rattle.lrc_step.specs.Given.{IsGivenIfRead}
use Rattle.lrc_step.specs.declared.given.Given.{Given}
use Rattle.lrc_step.proofs.given.given_of_each.Goals as goal

pub loop-position-preserved : goal.loop-position-preserved
loop-position-preserved c =
    let acts = c.args.acts.now in
    let positions = c.args.positions.now in
    let at = c.loop-position.position-index in
    let here : ℕ = get_or positions at 0 in
    let Found : ℕ → Option Given → Type 0 = λ place given. (position : ℕ) → slice_get positions place ≡ Some position
    → IsGivenIfRead acts position given in
    each-push Found c.loop-position.each.items _ _ at c.loop-position.invariant
    (λ position stands.
    let same : here ≡ position = same_Some here position (sym (slice_get-get_or positions at 0 c.loop-position-test.true) ∙ stands) in
    subst (λ (p : ℕ). IsGivenIfRead acts p c.in_ok-given.given) same c.in_ok-given.ensures)
    c.in_ok-push.ensures.items

pub returns : goal.returns
returns c =
    let positions = c.args.positions.now in
    let Found : ℕ → Option Given → Type 0 = λ place given. (position : ℕ) → slice_get positions place ≡ Some position
    → IsGivenIfRead c.args.acts.now position given in
    let end : c.loop-position.position-index ≡ length positions = omega arith in
    subst (λ (n : ℕ). OfEach n Found c.loop-position.each.items) end c.loop-position.invariant
