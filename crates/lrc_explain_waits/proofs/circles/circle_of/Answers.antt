use Rattle.std.proofs.Common.{◌≡◌, ◌∙◌, ◌-◌, ◌+◌, None, Some, ap, sym, length}
use Rattle.std.specs.Prelude.{slice_index_or}
use Rattle.lrc_explain_waits.specs.Circles.{way_back}
use Rattle.lrc_explain_waits.proofs.Ways.{behind, way_ends, way_is_back, way_is_lower, way_goes_on}
use Rattle.lrc_explain_waits.proofs.circles.circle_of.Goals as goal

pub returns-in_default : goal.returns-in_default
returns-in_default c =
    let waits = c.args.waits.now in
    let at = c.loop-step.at in
    let is : slice_index_or waits at None ≡ None = sym c.in_default.ensures in
    sym (c.loop-step.invariant ∙ way_ends waits c.args.first (length waits) c.loop-step._step at c.loop-step.way.items c.loop-step-test.true is)

pub returns-then-next-first : goal.returns-then-next-first
returns-then-next-first c =
    let waits = c.args.waits.now in
    let at = c.loop-step.at in
    let is : slice_index_or waits at None ≡ Some c.in-Some.next = sym c.in-Some.ensures in
    sym (c.loop-step.invariant
    ∙ way_is_back waits c.args.first (length waits) c.loop-step._step at c.loop-step.way.items c.loop-step-test.true c.in-Some.next is c.if-next-first.true)

pub returns-then-next-first-2 : goal.returns-then-next-first-2
returns-then-next-first-2 c =
    let waits = c.args.waits.now in
    let at = c.loop-step.at in
    let is : slice_index_or waits at None ≡ Some c.in-Some.next = sym c.in-Some.ensures in
    sym (c.loop-step.invariant
    ∙ way_is_lower waits c.args.first (length waits) c.loop-step._step at c.loop-step.way.items c.loop-step-test.true c.in-Some.next is c.if-next-first-2.true)

pub loop-step-preserved : goal.loop-step-preserved
loop-step-preserved c =
    let waits = c.args.waits.now in
    let at = c.loop-step.at in
    let next = c.in-Some.next in
    let left = way_back waits c.args.first (length waits - (c.loop-step._step + 1)) next in
    let is : slice_index_or waits at None ≡ Some next = sym c.in-Some.ensures in
    c.loop-step.invariant
    ∙ way_goes_on waits c.args.first (length waits) c.loop-step._step at c.loop-step.way.items c.loop-step-test.true next is c.if-next-first.false
    c.if-next-first-2.false
    ∙ ap (λ way. behind way left) (sym c.in_ok-push.ensures.items)
