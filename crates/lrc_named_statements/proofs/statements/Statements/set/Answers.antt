-- A shared item alone, or another value.
use Rattle.std.proofs.Common.{◌≡◌, sym, subst, ◌∙◌}
use Rattle.std.specs.Prelude.{[], length}
use Rattle.lrc_named_tree.specs.Tree as tree
use Rattle.lrc_named_tree.specs.View as trees
use Rattle.lrc_named_tree.specs.View.{place_of}
use Rattle.lrc_named_names.specs.View.{declared_of}
use Rattle.lrc_named_core.specs.Tree as core
use Rattle.lrc_named_constants.specs.Well.{IsWell}
use Rattle.lrc_named_translation.specs.Added.{IsAdded}
use Rattle.lrc_named_translation.specs.Made.{bare}
use Rattle.lrc_named_translation.specs.Turn.{element_of}
use Rattle.lrc_named_translation.proofs.Adding.{added_as}
use Rattle.lrc_named_statements.specs.Statements.{IsCore, IsNoItem}
use Rattle.lrc_named_statements.proofs.Chain.{well}
use Rattle.lrc_named_statements.proofs.Wells.{bare_well}
use Rattle.lrc_named_statements.proofs.statements.Statements.set.Goals as goal

pub read_into-requires-clause-well : goal.read_into-requires-clause-well
read_into-requires-clause-well c =
    let declared = declared_of c.args.self.now.names.now in
    let w : IsWell declared [] (length declared) (element_of c.in-Some.element) =
    subst (IsWell declared [] (length declared)) (sym c.bare.ensures ∙ c.in-Some.ensures.0)
    (bare_well declared [] (length declared) (trees.expression_of c.args.value.now) c.requires.well) in
    w.1

pub set_to-requires-clause-alone : goal.set_to-requires-clause-alone
set_to-requires-clause-alone c = subst (IsNoItem (declared_of c.args.self.now.names.now)) c.bare.ensures c.in-None.ensures

pub returns-in-Some : goal.returns-in-Some
returns-in-Some c =
    let declared = declared_of c.args.self.now.names.now in
    let p = place_of c.args.place.now in
    let value = trees.expression_of c.args.value.now in
    let e = element_of c.in-Some.element in
    let old = c.args.into.now.items in
    let new = c.read_into.new.into.items in
    let P = λ (b : core.Block). (v : tree.Expression) → bare v ≡ e → IsCore declared c.args.held (tree.assign p tree.set v) b in
    well (IsAdded P old new) (IsAdded (IsCore declared c.args.held (tree.assign p tree.set value)) old new) c.read_into.result
    (λ k. added_as P (IsCore declared c.args.held (tree.assign p tree.set value)) old new
    (λ b f. f value (sym c.bare.ensures ∙ c.in-Some.ensures.0)) k) c.read_into.ensures
