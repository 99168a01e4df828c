-- By what is set, and how.
use Rattle.std.proofs.Common.{◌≡◌, Some, ap, sym, ◌∙◌}
use Rattle.lrc_named_tree.specs.Tree as tree
use Rattle.lrc_named_tree.specs.View as trees
use Rattle.lrc_named_tree.specs.View.{place_of, update_of}
use Rattle.lrc_named_names.specs.Names.{meaning_of}
use Rattle.lrc_named_names.specs.View.{declared_of}
use Rattle.lrc_named_core.specs.Tree as core
use Rattle.lrc_named_translation.specs.Added.{IsAdded}
use Rattle.lrc_named_translation.proofs.Adding.{added_as}
use Rattle.lrc_named_statements.specs.Statements.{IsCore, operator_of}
use Rattle.lrc_named_statements.proofs.Pushed.{core_as}
use Rattle.lrc_named_statements.proofs.Chain.{well}
use Rattle.lrc_named_statements.proofs.Wells.{plain_set, private_settable, shared_true}
use Rattle.lrc_named_statements.proofs.statements.Statements.assign.Goals as goal

pub write_over-requires-clause-shared : goal.write_over-requires-clause-shared
write_over-requires-clause-shared c =
    shared_true (meaning_of (declared_of c.args.self.now.names.now) c.args.place.now.name.bytes.now) (sym c.is_shared-shared.ensures ∙ c.if-shared.true)

pub write-requires-clause-shared : goal.write-requires-clause-shared
write-requires-clause-shared c =
    shared_true (meaning_of (declared_of c.args.self.now.names.now) c.args.place.now.name.bytes.now) (sym c.is_shared-shared.ensures ∙ c.if-shared-2.true)

pub change-requires-clause-private : goal.change-requires-clause-private
change-requires-clause-private c =
    private_settable (meaning_of (declared_of c.args.self.now.names.now) c.args.place.now.name.bytes.now) (place_of c.args.place.now).indices
    c.requires.place (sym c.is_shared-shared.ensures ∙ c.if-shared.false)

pub set-requires-clause-private : goal.set-requires-clause-private
set-requires-clause-private c =
    private_settable (meaning_of (declared_of c.args.self.now.names.now) c.args.place.now.name.bytes.now) (place_of c.args.place.now).indices
    c.requires.place (sym c.is_shared-shared.ensures ∙ c.if-shared-2.false)

pub returns-then-shared : goal.returns-then-shared
returns-then-shared c =
    let declared = declared_of c.args.self.now.names.now in
    let p = place_of c.args.place.now in
    let value = trees.expression_of c.args.value.now in
    let old = c.args.into.now.items in
    let new = c.write_over.new.into.items in
    let P = λ (b : core.Block). (u : tree.Update) → operator_of u ≡ Some c.in-Some.operator → IsCore declared c.args.held (tree.assign p u value) b in
    let Q = IsCore declared c.args.held (tree.assign p (update_of c.args.update) value) in
    well (IsAdded P old new) (IsAdded Q old new) c.write_over.result
    (λ k. added_as P Q old new (λ b f. f (update_of c.args.update) (sym c.in-Some.ensures)) k) c.write_over.ensures

pub returns-else-shared : goal.returns-else-shared
returns-else-shared c =
    let declared = declared_of c.args.self.now.names.now in
    let p = place_of c.args.place.now in
    let value = trees.expression_of c.args.value.now in
    let old = c.args.into.now.items in
    let new = c.change.new.into.items in
    let P = λ (b : core.Block). (u : tree.Update) → operator_of u ≡ Some c.in-Some.operator → IsCore declared c.args.held (tree.assign p u value) b in
    let Q = IsCore declared c.args.held (tree.assign p (update_of c.args.update) value) in
    well (IsAdded P old new) (IsAdded Q old new) c.change.result
    (λ k. added_as P Q old new (λ b f. f (update_of c.args.update) (sym c.in-Some.ensures)) k) c.change.ensures

pub returns-then-shared-2 : goal.returns-then-shared-2
returns-then-shared-2 c =
    let declared = declared_of c.args.self.now.names.now in
    let p = place_of c.args.place.now in
    let value = trees.expression_of c.args.value.now in
    let old = c.args.into.now.items in
    let new = c.write.new.into.items in
    let s = tree.assign p (update_of c.args.update) value in
    let d = tree.assign p tree.set value in
    well (IsAdded (IsCore declared c.args.held d) old new) (IsAdded (IsCore declared c.args.held s) old new) c.write.result
    (λ k. core_as declared c.args.held s d old new (ap (λ u. tree.assign p u value) (plain_set (update_of c.args.update) (sym c.in-None.ensures))) k) c.write.ensures

pub returns-else-shared-2 : goal.returns-else-shared-2
returns-else-shared-2 c =
    let declared = declared_of c.args.self.now.names.now in
    let p = place_of c.args.place.now in
    let value = trees.expression_of c.args.value.now in
    let old = c.args.into.now.items in
    let new = c.set.new.into.items in
    let s = tree.assign p (update_of c.args.update) value in
    let d = tree.assign p tree.set value in
    well (IsAdded (IsCore declared c.args.held d) old new) (IsAdded (IsCore declared c.args.held s) old new) c.set.result
    (λ k. core_as declared c.args.held s d old new (ap (λ u. tree.assign p u value) (plain_set (update_of c.args.update) (sym c.in-None.ensures))) k) c.set.ensures
