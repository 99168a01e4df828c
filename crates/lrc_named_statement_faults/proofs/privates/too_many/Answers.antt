-- The private ones of all names.
use Rattle.std.proofs.Common.{map, ap, subst, ◌∙◌}
use Rattle.std.specs.Prelude.{IfOk}
use Rattle.lrc_named_tree.specs.View.{named_of}
use Rattle.lrc_named_expression_faults.specs.Fault.{IsFirstOf}
use Rattle.lrc_named_expression_faults.specs.View.{scope_of}
use Rattle.lrc_named_statement_faults.specs.Statements.{IsOneTooMany, private_names}
use Rattle.lrc_named_statement_faults.proofs.privates.too_many.Goals as goal

pub returns : goal.returns
returns c =
    let scope = scope_of c.args.scope.now in
    let all = ap (map named_of) c.deref.ensures.value ∙ c.in_ok-names.ensures in
    let private = ap (map named_of) c.deref-2.ensures.value ∙ c.in_ok-private.ensures ∙ ap (private_names scope) all in
    subst (λ l. IfOk c.one_too_many.result (λ found. IsFirstOf (λ f. IsOneTooMany l f) found)) private c.one_too_many.ensures
