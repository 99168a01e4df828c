-- The condition, and then what divides by it.
use Rattle.std.proofs.Common.{◌≡◌, ap, sym, ◌∙◌}
use Rattle.lrc_named_tree.specs.View as trees
use Rattle.lrc_named_names.specs.View.{declared_of}
use Rattle.lrc_named_core.specs.declared.tree.Statement.{Assign}
use Rattle.lrc_named_core.specs.Tree.{assign, private}
use Rattle.lrc_named_core.specs.View.{expression_of, private_of}
use Rattle.lrc_named_translation.specs.Made.{holding}
use Rattle.lrc_named_statements.specs.Statements.{asserting, from, trial_of}
use Rattle.lrc_named_statements.proofs.Pushed.{assert_added, assert_added_after}
use Rattle.lrc_named_statements.proofs.statements.Statements.assert.Goals as goal

pub returns-in_ok-push-2 : goal.returns-in_ok-push-2
returns-in_ok-push-2 c =
    let condition = trees.expression_of c.args.condition.now in
    let n = c.in_ok-number.number in
    let p = expression_of c.in_ok-p.p in
    let t = trial_of (private (holding n condition)) in
    let is : expression_of c.in_ok-test.test ≡ t = c.in_ok-test.ensures ∙ ap trial_of c.private.ensures ∙ ap (λ x. trial_of (private x)) c.holding-name.ensures in
    assert_added_after (declared_of c.args.self.now.names.now) c.args.held c.args.token c.expression.new.taken n condition p
    (Assign c.from-origin.result c.holding-name.result c.in_ok-p.p) (Assign c.asserting-asserts.result c.holding-name.result c.in_ok-test.test)
    c.args.into.now.items c.expression.new.into.items c.push.new.self.items c.push-then-divides.new.self.items
    c.in_ok-number.ensures (sym c.has_division-divides.ensures ∙ c.if-divides.true)
    (ap (λ o. assign o (private_of c.holding-name.result) p) c.from-origin.ensures ∙ ap (λ x. assign (from c.args.token) x p) c.holding-name.ensures)
    c.in_ok-push.ensures.items
    (ap (λ o. assign o (private_of c.holding-name.result) (expression_of c.in_ok-test.test)) c.asserting-asserts.ensures
    ∙ ap (λ x. assign (asserting c.args.token) x (expression_of c.in_ok-test.test)) c.holding-name.ensures
    ∙ ap (λ e. assign (asserting c.args.token) (holding n condition) e) is)
    c.in_ok-push-2.ensures.items c.in_ok-p.ensures

pub returns-in_ok-push-3 : goal.returns-in_ok-push-3
returns-in_ok-push-3 c =
    let condition = trees.expression_of c.args.condition.now in
    let n = c.in_ok-number.number in
    let p = expression_of c.in_ok-p.p in
    let test = c.in_ok-trap.trap in
    assert_added (declared_of c.args.self.now.names.now) c.args.held c.args.token c.expression.new.taken n condition p
    (Assign c.asserting-asserts.result c.holding-name.result test)
    c.args.into.now.items c.expression.new.into.items c.push-else-divides.new.self.items
    c.in_ok-number.ensures (sym c.has_division-divides.ensures ∙ c.if-divides.false)
    (ap (λ o. assign o (private_of c.holding-name.result) (expression_of test)) c.asserting-asserts.ensures
    ∙ ap (λ x. assign (asserting c.args.token) x (expression_of test)) c.holding-name.ensures
    ∙ ap (λ e. assign (asserting c.args.token) (holding n condition) e) c.in_ok-trap.ensures)
    c.in_ok-push-3.ensures.items c.in_ok-p.ensures
