-- Private, or not.
use Rattle.std.proofs.Common.{◌≡◌, [], ◌∷◌, ◌++◌, map, append-nil, sym, ap, ◌∙◌}
use Rattle.lrc_named_tree.specs.View.{named_of}
use Rattle.lrc_named_expression_faults.specs.View.{scope_of}
use Rattle.lrc_named_statement_faults.specs.Statements.{private_names}
use Rattle.lrc_named_statement_faults.proofs.Growing.{well}
use Rattle.lrc_named_statement_faults.proofs.Names.{private_none, private_one}
use Rattle.lrc_named_statement_faults.proofs.privates.push_private.Goals as goal

pub returns-then-is_private : goal.returns-then-is_private
returns-then-is_private c =
    let old = map named_of c.args.all.now.items in
    let new = map named_of c.push.new.names.items in
    let named = named_of c.args.name in
    well (new ≡ old ++ named ∷ []) (new ≡ old ++ private_names (scope_of c.args.scope.now) (named ∷ [])) c.push.result
    (λ h. h ∙ ap (λ l. old ++ l) (sym (private_one (scope_of c.args.scope.now) named (sym c.is_private.ensures ∙ c.if-is_private.true)))) c.push.ensures

pub returns-else-is_private : goal.returns-else-is_private
returns-else-is_private c =
    let old = map named_of c.args.all.now.items in
    sym (append-nil old) ∙ ap (λ l. old ++ l) (sym (private_none (scope_of c.args.scope.now) (named_of c.args.name) (sym c.is_private.ensures ∙ c.if-is_private.false)))
