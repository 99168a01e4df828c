use Rattle.std.proofs.Common.{◌≡◌, ◌∙◌, ◌-◌, ◌<◌, ◌||◌, ◌∷◌, suc, length, drop, get_or, sym, ap, ap₂, arith}
use Rattle.std.proofs.Math.Seq.{drop-cons}
use Rattle.lrc_orders_laws.specs.Names.{matters, no_name, uses}
use Rattle.lrc_orders_live.specs.Live.{has, matters_among}
use Rattle.lrc_orders_live.proofs.Tables.{among_at, has_none, if_among, matters_at, while_among}
use Rattle.lrc_orders_live.proofs.live.+live.Goals as goal

pub add_before-returns-in-If : goal.add_before-returns-in-If
add_before-returns-in-If t c = λ name lt.
    let behind = has c.args.names.now in
    let e = c.in-If.condition in
    let a = c.in-If.first in
    let b = c.in-If.second in
    let one : has c.add_before_all.new.names name ≡ matters_among a.items behind name =
    c.add_before_all.ensures name lt ∙ ap (λ l. matters_among l behind name) c.deref.ensures.value in
    let two : has c.add_before_all-in-If.new.names name ≡ matters_among b.items behind name =
    c.add_before_all-in-If.ensures name lt ∙ ap (λ l. matters_among l behind name) c.deref-in-If.ensures.value in
    c.add_used-in-If.ensures name lt
    ∙ ap (λ x. uses e name || x) (c.join.ensures name lt ∙ ap₂ (λ x y. x || y) one two)
    ∙ sym (if_among e a b behind name)
    ∙ sym (ap (λ s. matters s behind name) c.in-If.is)

pub add_before-returns-in-While : goal.add_before-returns-in-While
add_before-returns-in-While t c = λ name lt.
    let behind = has c.args.names.now in
    let e = c.in-While.condition in
    let a = c.in-While.body in
    let inside : has c.add_before_all-in-While.new.names name ≡ matters_among a.items no_name name =
    c.add_before_all-in-While.ensures name lt ∙ among_at c.deref-in-While.result.now _ no_name name (has_none 32 name)
    ∙ ap (λ l. matters_among l no_name name) c.deref-in-While.ensures.value in
    c.add_used-in-While.ensures name lt
    ∙ ap (λ x. uses e name || x) (c.join-in-While.ensures name lt ∙ ap (λ x. behind name || x) inside)
    ∙ sym (while_among e a behind name)
    ∙ sym (ap (λ s. matters s behind name) c.in-While.is)

pub add_before_all-loop-place-preserved : goal.add_before_all-loop-place-preserved
add_before_all-loop-place-preserved t c = λ name lt.
    let behind = has c.args.names.now in
    let statements = c.args.statements.now in
    let here = c.index-statements-place.result in
    let i = c.loop-place.place in
    let back : suc (i - 1) ≡ i = omega (arith, c.loop-place-test.true) in
    let within : i - 1 < length statements = omega (arith, c.loop-place-test.true) in
    let next : drop (i - 1) statements ≡ here ∷ drop i statements =
    drop-cons statements (i - 1) here within
    ∙ ap (λ n. get_or statements (i - 1) here ∷ drop n statements) back
    ∙ ap (λ x. x ∷ drop i statements) (sym c.index-statements-place.is)
    in
    c.add_before.ensures name lt
    ∙ matters_at here (has c.loop-place.names) (matters_among (drop i statements) behind) name (c.loop-place.invariant name lt)
    ∙ sym (ap (λ l. matters_among l behind name) next)
