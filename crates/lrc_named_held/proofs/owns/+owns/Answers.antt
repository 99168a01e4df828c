-- The names of each statement are added.
use Rattle.std.proofs.Common.{◌≡◌, ◌∙◌, ◌++◌, List, Vec, ap, map}
use Rattle.std.specs.declared.alloc.Global.{Global}
use Rattle.std.proofs.lemmas.List.{map_push}
use Rattle.lrc_named_core.specs.View.{block_of, statement_of}
use Rattle.lrc_named_held.proofs.Rows.{well}
use Rattle.lrc_named_held.specs.declared.owns.Own.{Own}
use Rattle.lrc_named_held.specs.Owns.{owns_among, owns_inside}
use Rattle.lrc_named_held.proofs.Growing.{block_step, choice_pushed, loop_pushed}
use Rattle.lrc_named_held.proofs.owns.+owns.Goals as goal

abbrev items_of : Vec Own Global → List Own
items_of one = one.items

pub push_among-loop-statement-preserved : goal.push_among-loop-statement-preserved
push_among-loop-statement-preserved t c =
    block_step c.args.statements.now c.loop-statement.statement-index c.statement-item.result
    (map items_of c.args.all.now.items) (map items_of c.loop-statement.all.items) (map items_of c.push.new.self.items) (map items_of c.push_inside.new.all.items)
    c.in_ok-own.own.items c.loop-statement-test.true c.statement-item.is c.loop-statement.invariant c.in_ok-own.ensures
    (ap (map items_of) c.in_ok-push.ensures.items ∙ map_push items_of c.loop-statement.all.items c.in_ok-own.own) c.in_ok-push_inside.ensures

pub push_inside-returns-in_ok-push_among-in-If : goal.push_inside-returns-in_ok-push_among-in-If
push_inside-returns-in_ok-push_among-in-If t c =
    let old : List (List Own) = map items_of c.args.all.now.items in
    let one : List (List Own) = map items_of c.push_among.new.all.items in
    let new : List (List Own) = map items_of c.push_among-in-If.new.all.items in
    well (new ≡ one ++ owns_among (block_of c.deref-in-If.result.now)) (new ≡ old ++ owns_inside (statement_of c.args.statement.now)) c.push_among-in-If.result
    (λ pushed. choice_pushed c.in-If.field-0 c.in-If.field-1 c.in-If.then c.in-If.otherwise c.args.statement.now
    old one new c.deref.result.now c.deref-in-If.result.now
    c.in-If.is c.deref.ensures.value c.deref-in-If.ensures.value c.in_ok-push_among-in-If.ensures pushed)
    c.push_among-in-If.ensures

pub push_inside-returns-in-While : goal.push_inside-returns-in-While
push_inside-returns-in-While t c =
    let old : List (List Own) = map items_of c.args.all.now.items in
    let new : List (List Own) = map items_of c.push_among-in-While.new.all.items in
    well (new ≡ old ++ owns_among (block_of c.deref-in-While.result.now)) (new ≡ old ++ owns_inside (statement_of c.args.statement.now)) c.push_among-in-While.result
    (λ pushed. loop_pushed c.in-While.field-0 c.in-While.field-1 c.in-While.inside c.args.statement.now old new c.deref-in-While.result.now
    c.in-While.is c.deref-in-While.ensures.value pushed)
    c.push_among-in-While.ensures
