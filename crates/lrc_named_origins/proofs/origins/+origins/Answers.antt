-- What each statement comes from is added.
use Rattle.std.proofs.Common.{◌≡◌, ◌++◌, List, map}
use Rattle.lrc_named_core.specs.Tree.{Origin}
use Rattle.lrc_named_core.specs.View.{block_of, origin_of, statement_of}
use Rattle.lrc_named_origins.specs.Origins.{origins_in, origins_of}
use Rattle.lrc_named_origins.proofs.Growing.{block_step, choice_pushed, loop_pushed}
use Rattle.lrc_named_origins.proofs.Rows.{well}
use Rattle.lrc_named_origins.proofs.origins.+origins.Goals as goal

pub push_origins-loop-statement-preserved : goal.push_origins-loop-statement-preserved
push_origins-loop-statement-preserved t c =
    block_step c.args.statements.now c.loop-statement.statement-index c.statement-item.result
    (map origin_of c.args.origins.now.items) (map origin_of c.loop-statement.origins.items) (map origin_of c.push_origins_in.new.origins.items)
    c.loop-statement-test.true c.statement-item.is c.loop-statement.invariant c.in_ok-push_origins_in.ensures

pub push_origins_in-returns-in_ok-push_origins-in-If : goal.push_origins_in-returns-in_ok-push_origins-in-If
push_origins_in-returns-in_ok-push_origins-in-If t c =
    let old : List Origin = map origin_of c.args.origins.now.items in
    let one : List Origin = map origin_of c.push_origins.new.origins.items in
    let new : List Origin = map origin_of c.push_origins-in-If.new.origins.items in
    well (new ≡ one ++ origins_of (block_of c.deref-in-If.result.now)) (new ≡ old ++ origins_in (statement_of c.args.statement.now)) c.push_origins-in-If.result
    (λ pushed. choice_pushed c.in-If.origin c.in-If.field-1 c.in-If.then c.in-If.otherwise c.args.statement.now
    old (map origin_of c.push_origin-in-If.new.origins.items) one new c.deref.result.now c.deref-in-If.result.now
    c.in-If.is c.deref.ensures.value c.deref-in-If.ensures.value c.in_ok-push_origin-in-If.ensures c.in_ok-push_origins-in-If.ensures pushed)
    c.push_origins-in-If.ensures

pub push_origins_in-returns-in_ok-push_origin-in-While : goal.push_origins_in-returns-in_ok-push_origin-in-While
push_origins_in-returns-in_ok-push_origin-in-While t c =
    let old : List Origin = map origin_of c.args.origins.now.items in
    let head : List Origin = map origin_of c.push_origin-in-While.new.origins.items in
    let new : List Origin = map origin_of c.push_origins-in-While.new.origins.items in
    well (new ≡ head ++ origins_of (block_of c.deref-in-While.result.now)) (new ≡ old ++ origins_in (statement_of c.args.statement.now)) c.push_origins-in-While.result
    (λ pushed. loop_pushed c.in-While.origin c.in-While.field-1 c.in-While.inside c.args.statement.now old head new c.deref-in-While.result.now
    c.in-While.is c.deref-in-While.ensures.value c.in_ok-push_origin-in-While.ensures pushed)
    c.push_origins-in-While.ensures
