use Rattle.std.proofs.Common.{◌≡◌, List, [], ◌∷◌, ◌++◌, get_or, ap, sym, subst, ◌∙◌}
use Rattle.std.specs.Prelude.{AllPairs, IsTrue}
use Rattle.std.proofs.lemmas.List.{take_more, take_all}
use Rattle.std.proofs.lemmas.Result.{IfOk-from_err}
use Rattle.lrc_store.specs.Interval.{IntervalRecord, by_node}
use Rattle.lrc_store.proofs.intervals.Intervals.duplicate.Goals as goal

pub returns-in_err-list : goal.returns-in_err-list
returns-in_err-list c = IfOk-from_err _ _ c.from_residual.ensures.0

pub loop-interval-init : goal.loop-interval-init
loop-interval-init c = c.in_ok-list.ensures.items

pub returns-in_err-duplicate : goal.returns-in_err-duplicate
returns-in_err-duplicate c = IfOk-from_err _ _ c.from_residual-in_err-duplicate.ensures.0

pub returns-in_err-push : goal.returns-in_err-push
returns-in_err-push c = IfOk-from_err _ _ c.from_residual-in_err-push.ensures.0

pub loop-interval-preserved : goal.loop-interval-preserved
loop-interval-preserved c =
    let all = c.deref-interval-items.result.now in
    let n = c.loop-interval.interval-index in
    let item : IntervalRecord = c.interval-item.result in
    let pushed : ◌≡◌ {A = List IntervalRecord} c.push.new.self.items (c.loop-interval.list.items ++ c.in_ok-duplicate.field-0 ∷ []) =
    c.in_ok-push.ensures.items in
    pushed
    ∙ ap (λ (i : IntervalRecord). c.loop-interval.list.items ++ i ∷ []) (c.in_ok-duplicate.ensures ∙ c.interval-item.is)
    ∙ ap (λ (l : List IntervalRecord). l ++ get_or all n item ∷ []) c.loop-interval.invariant
    ∙ sym (take_more all n item c.loop-interval-test.true)

pub invariant_of-result : goal.invariant_of-result
invariant_of-result c =
    subst (AllPairs (λ (a b : IntervalRecord). IsTrue (by_node a b)))
    (sym (c.loop-interval.invariant
    ∙ take_all c.loop-interval.interval-index c.deref-interval-items.result.now c.loop-interval-test.false
    ∙ c.deref-interval-items.ensures.value))
    c.self.invariant

pub returns : goal.returns
returns c =
    c.loop-interval.invariant
    ∙ take_all c.loop-interval.interval-index c.deref-interval-items.result.now c.loop-interval-test.false
    ∙ c.deref-interval-items.ensures.value ∙ c.self.view_is
