use Rattle.std.proofs.Common.{◌≡◌, ◌∙◌, ◌<◌, ℕ, Option, Some, Vec, get_or, arith, length, subst, sym}
use Rattle.std.specs.Prelude.{slice_get}
use Rattle.std.specs.declared.alloc.Global.{Global}
use Rattle.std.proofs.lemmas.Option.{same_Some, slice_get-get_or}
use Rattle.lrc_why.specs.Spread.{OfEach}
use Rattle.lrc_why.proofs.Lists.{each-push}
use Rattle.lrc_step.specs.Rivals.{AreRivals}
use Rattle.lrc_step.specs.declared.rivals.Rival.{Rival}
use Rattle.lrc_step.proofs.rivals.rivals_of_each.Goals as goal

pub loop-position-preserved : goal.loop-position-preserved
loop-position-preserved c =
    let acts = c.args.acts.now in
    let lines = c.args.lines.now in
    let positions = c.args.positions.now in
    let at = c.loop-position.position-index in
    let here : ℕ = get_or positions at 0 in
    let Found : ℕ → Vec (Option Rival) Global → Type 0 = λ place all. (position : ℕ) → slice_get positions place ≡ Some position
    → AreRivals acts lines c.args.nodes position all.items in
    each-push Found c.loop-position.each.items _ _ at c.loop-position.invariant
    (λ position stands.
    let same : here ≡ position = same_Some here position (sym (slice_get-get_or positions at 0 c.loop-position-test.true) ∙ stands) in
    subst (λ (p : ℕ). AreRivals acts lines c.args.nodes p c.in_ok-all.all.items) same c.in_ok-all.ensures)
    c.in_ok-push.ensures.items

pub returns : goal.returns
returns c =
    let positions = c.args.positions.now in
    let Found : ℕ → Vec (Option Rival) Global → Type 0 = λ place all. (position : ℕ) → slice_get positions place ≡ Some position
    → AreRivals c.args.acts.now c.args.lines.now c.args.nodes position all.items in
    let end : c.loop-position.position-index ≡ length positions = omega arith in
    subst (λ (n : ℕ). OfEach n Found c.loop-position.each.items) end c.loop-position.invariant
