-- Each statement has its rule.
use Rattle.std.proofs.Common.{◌≡◌, ◌+◌, ◌-◌, ◌*◌, ◌<◌, ◌≤◌, true, false, length, take, drop, ap, sym, subst, arith, ◌∙◌}
use Rattle.lrc_program.specs.declared.Operator.TheVariants.{Add, Less}
use Rattle.lrc_named_tree.specs.Tree as tree
use Rattle.lrc_named_tree.specs.View as trees
use Rattle.lrc_named_tree.specs.View.{named_of, place_of}
use Rattle.lrc_named_names.specs.View.{declared_of, item_of}
use Rattle.lrc_named_core.specs.declared.tree.Statement.{Acquire, Assign, If, Release, While}
use Rattle.lrc_named_core.specs.declared.tree.Private.TheVariants.{Named}
use Rattle.lrc_named_core.specs.Tree.{acquire, assign, binary, if_else, named, number, private, release, while_do, only}
use Rattle.lrc_named_core.specs.Tree as core
use Rattle.lrc_named_core.specs.View.{block_of, expression_of, private_of}
use Rattle.lrc_named_translation.specs.Added.{IsAdded}
use Rattle.lrc_named_translation.proofs.Adding.{added_as}
use Rattle.lrc_named_translation.proofs.Rows.{if_seen, while_seen}
use Rattle.lrc_named_statements.specs.Statements.{AreCores, ArePrinted, IsAddress, IsChoice, IsCore, IsElse, IsHeldFor, IsHeldWith}
use Rattle.lrc_named_statements.specs.Statements.{at_barrier, chosen, closing, from, printed}
use Rattle.lrc_named_blocks.specs.View.{arms_of}
use Rattle.lrc_named_statements.specs.Well.{IsWellStatement}
use Rattle.lrc_named_blocks.proofs.Within as blocks
use Rattle.lrc_named_blocks.proofs.Within.{IsCounting, IsGuarded, cores_none, cores_step, smaller_at, well_at}
use Rattle.lrc_named_statements.proofs.Chain.{taken_back, well}
use Rattle.lrc_named_statements.proofs.Pushed.{core_as}
use Rattle.lrc_named_blocks.proofs.Measure.{size, sizes, arm_sizes}
use Rattle.lrc_named_blocks.proofs.Seen as seen
use Rattle.lrc_named_blocks.proofs.blocks.Blocks.+blocks.Goals as goal

pub block-loop-statement-init : goal.block-loop-statement-init
block-loop-statement-init t c = cores_none (declared_of c.args.self.now.names.now) c.args.held c.args.into.now.items

pub block-loop-statement-preserved : goal.block-loop-statement-preserved
block-loop-statement-preserved t c =
    cores_step (declared_of c.args.self.now.names.now) c.args.held c.args.statements.now c.loop-statement.statement-index c.statement-item.result
    c.args.into.now.items c.loop-statement.into.items c.add.new.into.items c.loop-statement-test.true c.statement-item.is
    c.loop-statement.invariant c.in_ok-add.ensures

pub block-add-requires : goal.block-add-requires
block-add-requires t c =
    let declared = declared_of c.args.self.now.names.now in
    let xs = c.args.statements.now in
    let x = c.statement-item.result in
    let i = c.loop-statement.statement-index in
    let h : size (trees.statement_of x) < sizes (trees.block_of xs) =
    subst (λ y. size (trees.statement_of y) < sizes (trees.block_of xs)) (sym c.statement-item.is) (smaller_at xs i x c.loop-statement-test.true) in
    let w : IsWellStatement declared (trees.statement_of x) =
    subst (λ y. IsWellStatement declared (trees.statement_of y)) (sym c.statement-item.is) (well_at declared xs i x c.loop-statement-test.true c.requires.well) in
    (omega (arith, h), (c.requires.table, w))

-- ---- by its form

pub add-returns-in-Assign : goal.add-returns-in-Assign
add-returns-in-Assign t c =
    let declared = declared_of c.args.self.now.names.now in
    let s = trees.statement_of c.args.statement.now in
    let d = tree.assign (place_of c.in-Assign.place) (trees.update_of c.in-Assign.update) (trees.expression_of c.in-Assign.value) in
    let is : s ≡ d = ap trees.statement_of c.in-Assign.is in
    let old = c.args.into.now.items in
    let new = c.assign.new.into.items in
    well (IsAdded (IsCore declared c.args.held d) old new) (IsAdded (IsCore declared c.args.held s) old new) c.assign.result
    (λ k. core_as declared c.args.held s d old new is k) c.assign.ensures

pub add-returns-in-Acquire : goal.add-returns-in-Acquire
add-returns-in-Acquire t c =
    let declared = declared_of c.args.self.now.names.now in
    let s = trees.statement_of c.args.statement.now in
    let d = tree.acquire c.in-Acquire.at (place_of c.in-Acquire.place) in
    let is : s ≡ d = ap trees.statement_of c.in-Acquire.is in
    let old = c.args.into.now.items in
    let new = c.acquire.new.into.items in
    well (IsAdded (IsCore declared c.args.held d) old new) (IsAdded (IsCore declared c.args.held s) old new) c.acquire.result
    (λ k. core_as declared c.args.held s d old new is k) c.acquire.ensures

pub add-returns-in-Release : goal.add-returns-in-Release
add-returns-in-Release t c =
    let declared = declared_of c.args.self.now.names.now in
    let s = trees.statement_of c.args.statement.now in
    let d = tree.release c.in-Release.at (place_of c.in-Release.place) in
    let is : s ≡ d = ap trees.statement_of c.in-Release.is in
    let old = c.args.into.now.items in
    let new = c.release.new.into.items in
    well (IsAdded (IsCore declared c.args.held d) old new) (IsAdded (IsCore declared c.args.held s) old new) c.release.result
    (λ k. core_as declared c.args.held s d old new is k) c.release.ensures

pub add-returns-in-Barrier : goal.add-returns-in-Barrier
add-returns-in-Barrier t c =
    let declared = declared_of c.args.self.now.names.now in
    let s = trees.statement_of c.args.statement.now in
    let d = tree.barrier c.in-Barrier.at in
    let is : s ≡ d = ap trees.statement_of c.in-Barrier.is in
    let old = c.args.into.now.items in
    let new = c.barrier.new.into.items in
    well (IsAdded (λ b. b ≡ only (core.barrier (from c.in-Barrier.at))) old new) (IsAdded (IsCore declared c.args.held s) old new) c.barrier.result
    (λ k. core_as declared c.args.held s d old new is (added_as (λ b. b ≡ only (core.barrier (from c.in-Barrier.at))) (IsCore declared c.args.held d) old new (λ b m. subst (IsCore declared c.args.held d) (sym m) at_barrier) k)) c.barrier.ensures

pub add-returns-in-Print : goal.add-returns-in-Print
add-returns-in-Print t c =
    let declared = declared_of c.args.self.now.names.now in
    let s = trees.statement_of c.args.statement.now in
    let d = tree.print c.in-Print.at (trees.expressions_of c.deref.result.now) in
    let is : s ≡ d = ap trees.statement_of c.in-Print.is ∙ ap (λ l. tree.print c.in-Print.at (trees.expressions_of l)) (sym c.deref.ensures.value) in
    let old = c.args.into.now.items in
    let new = c.print.new.into.items in
    well (IsAdded (ArePrinted declared c.args.held c.in-Print.at (trees.expressions_of c.deref.result.now)) old new) (IsAdded (IsCore declared c.args.held s) old new) c.print.result
    (λ k. core_as declared c.args.held s d old new is (added_as (ArePrinted declared c.args.held c.in-Print.at (trees.expressions_of c.deref.result.now)) (IsCore declared c.args.held d) old new (λ b m. printed m) k)) c.print.ensures

pub add-returns-in-Assert : goal.add-returns-in-Assert
add-returns-in-Assert t c =
    let declared = declared_of c.args.self.now.names.now in
    let s = trees.statement_of c.args.statement.now in
    let d = tree.assert c.in-Assert.at (trees.expression_of c.in-Assert.condition) in
    let is : s ≡ d = ap trees.statement_of c.in-Assert.is in
    let old = c.args.into.now.items in
    let new = c.assert.new.into.items in
    well (IsAdded (IsCore declared c.args.held d) old new) (IsAdded (IsCore declared c.args.held s) old new) c.assert.result
    (λ k. core_as declared c.args.held s d old new is k) c.assert.ensures

pub add-returns-in-With : goal.add-returns-in-With
add-returns-in-With t c =
    let declared = declared_of c.args.self.now.names.now in
    let s = trees.statement_of c.args.statement.now in
    let d = tree.with_do c.in-With.at (place_of c.in-With.place) (trees.block_of c.deref-in-With.result.now) c.in-With.close in
    let is : s ≡ d = ap trees.statement_of c.in-With.is ∙ seen.with_seen c.in-With.at c.in-With.place c.in-With.inside c.in-With.close
    ∙ ap (λ l. tree.with_do c.in-With.at (place_of c.in-With.place) (trees.block_of l) c.in-With.close) (sym c.deref-in-With.ensures.value) in
    let old = c.args.into.now.items in
    let new = c.with_lock.new.into.items in
    well (IsAdded (IsCore declared c.args.held d) old new) (IsAdded (IsCore declared c.args.held s) old new) c.with_lock.result
    (λ k. core_as declared c.args.held s d old new is k) c.with_lock.ensures

pub add-returns-in-If : goal.add-returns-in-If
add-returns-in-If t c =
    let declared = declared_of c.args.self.now.names.now in
    let s = trees.statement_of c.args.statement.now in
    let d = tree.if_else c.in-If.at (trees.expression_of c.in-If.condition) (trees.block_of c.deref-in-If.result.now) (arms_of c.deref-in-If-2.result.now) (trees.block_of c.deref-in-If-3.result.now) in
    let is : s ≡ d = ap trees.statement_of c.in-If.is ∙ seen.if_seen c.in-If.at c.in-If.condition c.in-If.then c.in-If.arms c.in-If.otherwise
    ∙ seen.if_same c.in-If.at (trees.expression_of c.in-If.condition) (ap trees.block_of (sym c.deref-in-If.ensures.value)) (ap arms_of (sym c.deref-in-If-2.ensures.value)) (ap trees.block_of (sym c.deref-in-If-3.ensures.value)) in
    let old = c.args.into.now.items in
    let new = c.choice.new.into.items in
    well (IsAdded (IsChoice declared c.args.held c.in-If.at (trees.expression_of c.in-If.condition) (trees.block_of c.deref-in-If.result.now) (arms_of c.deref-in-If-2.result.now) (trees.block_of c.deref-in-If-3.result.now)) old new) (IsAdded (IsCore declared c.args.held s) old new) c.choice.result
    (λ k. core_as declared c.args.held s d old new is (added_as (IsChoice declared c.args.held c.in-If.at (trees.expression_of c.in-If.condition) (trees.block_of c.deref-in-If.result.now) (arms_of c.deref-in-If-2.result.now) (trees.block_of c.deref-in-If-3.result.now))
    (IsCore declared c.args.held d) old new (λ b m. chosen m) k)) c.choice.ensures

pub add-returns-in-While : goal.add-returns-in-While
add-returns-in-While t c =
    let declared = declared_of c.args.self.now.names.now in
    let s = trees.statement_of c.args.statement.now in
    let d = tree.while_do c.in-While.at (trees.expression_of c.in-While.condition) (trees.block_of c.deref-in-While.result.now) in
    let is : s ≡ d = ap trees.statement_of c.in-While.is ∙ seen.while_seen c.in-While.at c.in-While.condition c.in-While.inside
    ∙ ap (λ l. tree.while_do c.in-While.at (trees.expression_of c.in-While.condition) (trees.block_of l)) (sym c.deref-in-While.ensures.value) in
    let old = c.args.into.now.items in
    let new = c.repeat.new.into.items in
    well (IsAdded (IsCore declared c.args.held d) old new) (IsAdded (IsCore declared c.args.held s) old new) c.repeat.result
    (λ k. core_as declared c.args.held s d old new is k) c.repeat.ensures

pub add-returns-in-For : goal.add-returns-in-For
add-returns-in-For t c =
    let declared = declared_of c.args.self.now.names.now in
    let s = trees.statement_of c.args.statement.now in
    let d = tree.for_do c.in-For.at (named_of c.in-For.name) (trees.expression_of c.in-For.first) (trees.expression_of c.in-For.end) (trees.block_of c.deref-in-For.result.now) in
    let is : s ≡ d = ap trees.statement_of c.in-For.is ∙ seen.for_seen c.in-For.at c.in-For.name c.in-For.first c.in-For.end c.in-For.inside
    ∙ ap (λ l. tree.for_do c.in-For.at (named_of c.in-For.name) (trees.expression_of c.in-For.first) (trees.expression_of c.in-For.end) (trees.block_of l)) (sym c.deref-in-For.ensures.value) in
    let old = c.args.into.now.items in
    let new = c.count.new.into.items in
    well (IsAdded (IsCore declared c.args.held d) old new) (IsAdded (IsCore declared c.args.held s) old new) c.count.result
    (λ k. core_as declared c.args.held s d old new is k) c.count.ensures

pub add-with_lock-requires : goal.add-with_lock-requires
add-with_lock-requires t c =
    let declared = declared_of c.args.self.now.names.now in
    let s = trees.statement_of c.args.statement.now in
    let d = tree.with_do c.in-With.at (place_of c.in-With.place) (trees.block_of c.deref-in-With.result.now) c.in-With.close in
    let is : s ≡ d = ap trees.statement_of c.in-With.is ∙ seen.with_seen c.in-With.at c.in-With.place c.in-With.inside c.in-With.close
    ∙ ap (λ l. tree.with_do c.in-With.at (place_of c.in-With.place) (trees.block_of l) c.in-With.close) (sym c.deref-in-With.ensures.value) in
    let w : IsWellStatement declared d = subst (IsWellStatement declared) is c.requires.well in
    let m : size s ≡ 1 + (sizes (trees.block_of c.deref-in-With.result.now)) = ap size is in
    (omega (arith, m), (c.requires.table, (w.0, w.1)))

pub add-repeat-requires : goal.add-repeat-requires
add-repeat-requires t c =
    let declared = declared_of c.args.self.now.names.now in
    let s = trees.statement_of c.args.statement.now in
    let d = tree.while_do c.in-While.at (trees.expression_of c.in-While.condition) (trees.block_of c.deref-in-While.result.now) in
    let is : s ≡ d = ap trees.statement_of c.in-While.is ∙ seen.while_seen c.in-While.at c.in-While.condition c.in-While.inside
    ∙ ap (λ l. tree.while_do c.in-While.at (trees.expression_of c.in-While.condition) (trees.block_of l)) (sym c.deref-in-While.ensures.value) in
    let w : IsWellStatement declared d = subst (IsWellStatement declared) is c.requires.well in
    let m : size s ≡ 1 + (sizes (trees.block_of c.deref-in-While.result.now)) = ap size is in
    (omega (arith, m), (c.requires.table, (w.0, w.1)))

pub add-count-requires : goal.add-count-requires
add-count-requires t c =
    let declared = declared_of c.args.self.now.names.now in
    let s = trees.statement_of c.args.statement.now in
    let d = tree.for_do c.in-For.at (named_of c.in-For.name) (trees.expression_of c.in-For.first) (trees.expression_of c.in-For.end) (trees.block_of c.deref-in-For.result.now) in
    let is : s ≡ d = ap trees.statement_of c.in-For.is ∙ seen.for_seen c.in-For.at c.in-For.name c.in-For.first c.in-For.end c.in-For.inside
    ∙ ap (λ l. tree.for_do c.in-For.at (named_of c.in-For.name) (trees.expression_of c.in-For.first) (trees.expression_of c.in-For.end) (trees.block_of l)) (sym c.deref-in-For.ensures.value) in
    let w : IsWellStatement declared d = subst (IsWellStatement declared) is c.requires.well in
    let m : size s ≡ 1 + (sizes (trees.block_of c.deref-in-For.result.now)) = ap size is in
    (omega (arith, m), (c.requires.table, (w.0, (w.1, w.2))))

pub add-choice-requires : goal.add-choice-requires
add-choice-requires t c =
    let declared = declared_of c.args.self.now.names.now in
    let s = trees.statement_of c.args.statement.now in
    let d = tree.if_else c.in-If.at (trees.expression_of c.in-If.condition) (trees.block_of c.deref-in-If.result.now) (arms_of c.deref-in-If-2.result.now) (trees.block_of c.deref-in-If-3.result.now) in
    let is : s ≡ d = ap trees.statement_of c.in-If.is ∙ seen.if_seen c.in-If.at c.in-If.condition c.in-If.then c.in-If.arms c.in-If.otherwise
    ∙ seen.if_same c.in-If.at (trees.expression_of c.in-If.condition) (ap trees.block_of (sym c.deref-in-If.ensures.value)) (ap arms_of (sym c.deref-in-If-2.ensures.value)) (ap trees.block_of (sym c.deref-in-If-3.ensures.value)) in
    let w : IsWellStatement declared d = subst (IsWellStatement declared) is c.requires.well in
    let m : size s ≡ 1 + (sizes (trees.block_of c.deref-in-If.result.now) + (arm_sizes (arms_of c.deref-in-If-2.result.now) + sizes (trees.block_of c.deref-in-If-3.result.now))) = ap size is in
    (omega (arith, m), (c.requires.table, (w.0, (w.1, (w.2, w.3)))))

-- ---- `with`

pub with_lock-returns-then-named : goal.with_lock-returns-then-named
with_lock-returns-then-named t c =
    let declared = declared_of c.args.self.now.names.now in
    let p = place_of c.args.with.place.now in
    let inside = trees.block_of c.args.with.inside.now in
    let token = c.args.with.token in
    let item = item_of c.lock_item-item.result.now in
    let early = expression_of c.in_ok-number.number in
    let old = c.args.into.now.items in
    let mid = c.place.new.into.items in
    let back = c.truncate.new.self.items in
    let new = c.with_held.new.into.items in
    let first = c.place.new.taken in
    let is = c.truncate.ensures.items ∙ taken_back (λ b. IsAddress declared token item p.indices c.args.held b early first) old mid c.len-start.result
    (seen.long_as c.args.into.now ∙ sym c.len-start.ensures) c.in_ok-number.ensures in
    well (IsAdded (IsHeldWith declared c.args.held token p inside c.args.with.close) back new)
    (IsAdded (IsCore declared c.args.held (tree.with_do token p inside c.args.with.close)) old new) c.with_held.result
    (λ k. blocks.with_held_added declared c.args.held first token c.args.with.close p inside item early old mid back new c.lock_item-item.ensures
    (sym c.has_name-named.ensures ∙ c.if-named.true) is c.in_ok-number.ensures k)
    c.with_held.ensures

pub with_lock-returns-else-named : goal.with_lock-returns-else-named
with_lock-returns-else-named t c =
    let declared = declared_of c.args.self.now.names.now in
    let p = place_of c.args.with.place.now in
    let inside = trees.block_of c.args.with.inside.now in
    let token = c.args.with.token in
    let close = c.args.with.close in
    let item = item_of c.lock_item-item.result.now in
    let word = expression_of c.in_ok-number.number in
    let old = c.args.into.now.items in
    let mid = c.place.new.into.items in
    let new = c.guard.new.into.items in
    well (IsAdded (IsGuarded declared c.args.held token close p inside word) mid new)
    (IsAdded (IsCore declared c.args.held (tree.with_do token p inside close)) old new) c.guard.result
    (λ k. blocks.with_added declared c.args.held c.place.new.taken token close p inside item word old mid new c.lock_item-item.ensures
    (sym c.has_name-named.ensures ∙ c.if-named.false) c.in_ok-number.ensures k)
    c.guard.ensures

pub with_held-returns : goal.with_held-returns
with_held-returns t c =
    let declared = declared_of c.args.self.now.names.now in
    let p = place_of c.args.with.place.now in
    let inside = trees.block_of c.args.with.inside.now in
    let token = c.args.with.token in
    let close = c.args.with.close in
    let item = item_of c.lock_item-item.result.now in
    let word = expression_of c.in_ok-number.number in
    let n = c.in_ok-holds.holds in
    let old = c.args.into.now.items in
    let mid = c.place.new.into.items in
    let near = c.push.new.self.items in
    let new = c.guard.new.into.items in
    well (IsAdded (IsGuarded declared n token close p inside (expression_of c.private.result)) near new)
    (IsAdded (IsHeldWith declared c.args.held token p inside close) old new) c.guard.result
    (λ k. blocks.held_with_added declared c.args.held n c.place.new.taken token close p inside item word (Assign c.from-origin.result c.in_ok-name.name c.in_ok-number.number)
    old mid near new c.lock_item-item.ensures c.in_ok-holds.ensures
    (ap (λ o. assign o (private_of c.in_ok-name.name) word) c.from-origin.ensures ∙ ap (λ x. assign (from token) x word) c.in_ok-name.ensures)
    c.in_ok-push.ensures.items c.in_ok-number.ensures
    (subst (λ x. IsAdded (IsGuarded declared n token close p inside x) near new) (c.private.ensures ∙ ap private c.in_ok-name.ensures) k))
    c.guard.ensures

pub guard-returns : goal.guard-returns
guard-returns t c =
    let p = place_of c.args.with.place.now in
    let word = expression_of c.args.number in
    let token = c.args.with.token in
    let close = c.args.with.close in
    blocks.guard_added (declared_of c.args.self.now.names.now) c.args.held token close p (trees.block_of c.args.with.inside.now) word
    (Acquire c.at_item-origin.result c.args.number) (Release c.closing-end.result c.in_ok-again.again)
    c.args.into.now.items c.push.new.self.items c.block.new.into.items c.push-2.new.self.items
    (ap (λ o. acquire o word) c.at_item-origin.ensures) c.in_ok-push.ensures.items
    (ap (λ o. release o (expression_of c.in_ok-again.again)) c.closing-end.ensures ∙ ap (release (closing token close p)) c.in_ok-again.ensures)
    c.in_ok-push-2.ensures.items c.in_ok-block.ensures

-- ---- `while`

pub repeat-returns : goal.repeat-returns
repeat-returns t c =
    let p = expression_of c.in_ok-p.p in
    blocks.while_added (declared_of c.args.self.now.names.now) c.args.held c.expression.new.taken c.expression-2.new.taken c.args.token
    (trees.expression_of c.args.condition.now) (trees.block_of c.args.inside.now) p (expression_of c.in_ok-_again._again)
    (While c.from-origin.result c.in_ok-p.p c.expression-2.new.into)
    c.args.into.now.items c.expression.new.into.items c.push.new.self.items c.new-round.result.items c.block.new.into.items c.expression-2.new.into.items
    c.new-round.ensures.items
    (while_seen c.from-origin.result c.in_ok-p.p c.expression-2.new.into ∙ ap (λ o. while_do o p (block_of c.expression-2.new.into.items)) c.from-origin.ensures)
    c.in_ok-push.ensures.items c.in_ok-p.ensures c.in_ok-block.ensures c.in_ok-_again.ensures

-- ---- `for`

pub count-returns-then-named : goal.count-returns-then-named
count-returns-then-named t c =
    let declared = declared_of c.args.self.now.names.now in
    let name = named_of c.args.count.name in
    let first = trees.expression_of c.args.count.first.now in
    let end = trees.expression_of c.args.count.end.now in
    let inside = trees.block_of c.args.count.inside.now in
    let token = c.args.count.token in
    let a = expression_of c.in_ok-first.first in
    let b = expression_of c.in_ok-end.end in
    let old = c.args.into.now.items in
    let mid = c.expression.new.into.items in
    let near = c.expression-2.new.into.items in
    let back = c.truncate.new.self.items in
    let new = c.count_held.new.into.items in
    let is = c.truncate.ensures.items ∙ blocks.twice_back declared c.args.held c.expression.new.taken c.expression-2.new.taken token first end a b
    old mid near c.len-start.result (seen.long_as c.args.into.now ∙ sym c.len-start.ensures) c.in_ok-first.ensures c.in_ok-end.ensures in
    well (IsAdded (IsHeldFor declared c.args.held token name first end inside) back new)
    (IsAdded (IsCore declared c.args.held (tree.for_do token name first end inside)) old new) c.count_held.result
    (λ k. blocks.for_held_added declared c.args.held c.expression.new.taken c.expression-2.new.taken token name first end inside a b old mid near back new
    (sym c.has_name-named.ensures ∙ c.if-named.true) is c.in_ok-first.ensures c.in_ok-end.ensures k)
    c.count_held.ensures

pub count-returns-else-named : goal.count-returns-else-named
count-returns-else-named t c =
    let declared = declared_of c.args.self.now.names.now in
    let name = named_of c.args.count.name in
    let first = trees.expression_of c.args.count.first.now in
    let end = trees.expression_of c.args.count.end.now in
    let inside = trees.block_of c.args.count.inside.now in
    let token = c.args.count.token in
    let a = expression_of c.in_ok-first.first in
    let b = expression_of c.in_ok-end.end in
    let old = c.args.into.now.items in
    let mid = c.expression.new.into.items in
    let near = c.expression-2.new.into.items in
    let new = c.rounds.new.into.items in
    well (IsAdded (IsCounting declared c.args.held token name inside a b) near new)
    (IsAdded (IsCore declared c.args.held (tree.for_do token name first end inside)) old new) c.rounds.result
    (λ k. blocks.for_added declared c.args.held c.expression.new.taken c.expression-2.new.taken token name first end inside a b old mid near new
    (sym c.has_name-named.ensures ∙ c.if-named.false) c.in_ok-first.ensures c.in_ok-end.ensures k)
    c.rounds.ensures

pub count_held-returns : goal.count_held-returns
count_held-returns t c =
    let declared = declared_of c.args.self.now.names.now in
    let name = named_of c.args.count.name in
    let first = trees.expression_of c.args.count.first.now in
    let end = trees.expression_of c.args.count.end.now in
    let inside = trees.block_of c.args.count.inside.now in
    let token = c.args.count.token in
    let n = c.in_ok-holds.holds in
    let a = expression_of c.in_ok-first.first in
    let b = expression_of c.in_ok-end.end in
    let old = c.args.into.now.items in
    let mid = c.expression.new.into.items in
    let near = c.expression-2.new.into.items in
    let far = c.push.new.self.items in
    let new = c.rounds.new.into.items in
    well (IsAdded (IsCounting declared n token name inside a (expression_of c.private.result)) far new)
    (IsAdded (IsHeldFor declared c.args.held token name first end inside) old new) c.rounds.result
    (λ k. blocks.held_for_added declared c.args.held n c.expression.new.taken c.expression-2.new.taken token name first end inside a b
    (Assign c.from-origin.result c.holding-limit.result c.in_ok-end.end) old mid near far new c.in_ok-holds.ensures
    (ap (λ o. assign o (private_of c.holding-limit.result) b) c.from-origin.ensures ∙ ap (λ x. assign (from token) x b) c.holding-limit.ensures)
    c.in_ok-push.ensures.items c.in_ok-first.ensures c.in_ok-end.ensures
    (subst (λ x. IsAdded (IsCounting declared n token name inside a x) far new) (c.private.ensures ∙ ap private c.holding-limit.ensures) k))
    c.rounds.ensures

pub rounds-returns : goal.rounds-returns
rounds-returns t c =
    let name = named_of c.args.count.name in
    let token = c.args.count.token in
    let first = expression_of c.args.first in
    let limit = expression_of c.args.limit in
    let x = Named c.args.count.name.bytes in
    let test : expression_of c.in_ok-test.test ≡ binary (private (named name.bytes)) Less limit =
    c.in_ok-test.ensures ∙ ap (λ e. binary e Less limit) c.private.ensures in
    let up : expression_of c.in_ok-next.next ≡ binary (private (named name.bytes)) Add (number 1) =
    c.in_ok-next.ensures ∙ ap (λ e. binary e Add (expression_of c.number.result)) c.private-2.ensures
    ∙ ap (λ e. binary (private (named name.bytes)) Add e) c.number.ensures in
    blocks.rounds_added (declared_of c.args.self.now.names.now) c.args.held token name (trees.block_of c.args.count.inside.now) first limit
    (Assign c.from-origin.result x c.args.first) (While c.from-origin.result c.in_ok-test.test c.push-2.new.self) (Assign c.from-origin.result x c.in_ok-next.next)
    c.args.into.now.items c.push.new.self.items c.push-3.new.self.items c.new-round.result.items c.block.new.into.items c.push-2.new.self.items
    c.new-round.ensures.items
    (ap (λ o. assign o (named name.bytes) first) c.from-origin.ensures) c.in_ok-push.ensures.items
    (ap (λ o. assign o (named name.bytes) (expression_of c.in_ok-next.next)) c.from-origin.ensures ∙ ap (assign (from token) (named name.bytes)) up)
    c.in_ok-push-2.ensures.items
    (while_seen c.from-origin.result c.in_ok-test.test c.push-2.new.self
    ∙ ap (λ o. while_do o (expression_of c.in_ok-test.test) (block_of c.push-2.new.self.items)) c.from-origin.ensures
    ∙ ap (λ e. while_do (from token) e (block_of c.push-2.new.self.items)) test)
    c.in_ok-push-3.ensures.items c.in_ok-block.ensures

-- ---- `if`

pub choice-returns : goal.choice-returns
choice-returns t c =
    let p = expression_of c.in_ok-p.p in
    let one = c.block.new.into in
    let two = c.otherwise.new.into in
    blocks.choice_added (declared_of c.args.self.now.names.now) c.args.held c.expression.new.taken c.args.choice.token
    (trees.expression_of c.args.choice.condition.now) (trees.block_of c.args.choice.then.now) (trees.block_of c.args.choice.otherwise.now)
    (arms_of c.args.choice.arms.now) p (If c.from-origin.result c.in_ok-p.p one two)
    c.args.into.now.items c.expression.new.into.items c.push.new.self.items c.new-first.result.items one.items c.new-second.result.items two.items
    c.new-first.ensures.items c.new-second.ensures.items
    (if_seen c.from-origin.result c.in_ok-p.p one two ∙ ap (λ o. if_else o p (block_of one.items) (block_of two.items)) c.from-origin.ensures)
    c.in_ok-push.ensures.items c.in_ok-p.ensures c.in_ok-block.ensures c.in_ok-otherwise.ensures

pub otherwise-returns-in-empty : goal.otherwise-returns-in-empty
otherwise-returns-in-empty t c =
    let declared = declared_of c.args.self.now.names.now in
    let old = c.args.into.now.items in
    let new = c.block.new.into.items in
    let block = trees.block_of c.args.otherwise.now in
    well (IsAdded (AreCores declared c.args.held block) old new) (IsAdded (IsElse declared c.args.held (arms_of c.args.arms.now) block) old new) c.block.result
    (λ k. seen.else_empty declared c.args.held c.args.arms.now block old new c.in-empty.len_below k) c.block.ensures

pub otherwise-returns-in-len1-up : goal.otherwise-returns-in-len1-up
otherwise-returns-in-len1-up t c =
    let declared = declared_of c.args.self.now.names.now in
    let old = c.args.into.now.items in
    let new = c.choice.new.into.items in
    let arms = c.args.arms.now in
    let a = c.arm-item.result in
    let then = trees.block_of c.deref.result.now in
    let block = trees.block_of c.args.otherwise.now in
    well (IsAdded (IsChoice declared c.args.held a.at (trees.expression_of a.condition) then (arms_of (take (length arms - 1) (drop 1 arms))) block) old new)
    (IsAdded (IsElse declared c.args.held (arms_of arms) block) old new) c.choice.result
    (λ k. seen.else_more declared c.args.held arms a then block old new c.in-len1-up.len_at_least c.arm-item.is (ap trees.block_of c.deref.ensures.value) k)
    c.choice.ensures
