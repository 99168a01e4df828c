-- A fault inside, or one of the value.
use Rattle.std.proofs.Common.{sym, subst}
use Rattle.std.specs.Prelude.{Some}
use Rattle.lrc_named_tree.specs.View.{expression_of}
use Rattle.lrc_named_expression_faults.specs.Expressions.{IsBeyond, IsInExpression, IsInIndex}
use Rattle.lrc_named_expression_faults.specs.Fault.{IsFirstOf}
use Rattle.lrc_named_expression_faults.specs.View.{scope_of}
use Rattle.lrc_named_expression_faults.proofs.First.{if_ok, none_found}
use Rattle.lrc_named_expression_faults.proofs.Inside.{index_with_fault, index_without}
use Rattle.lrc_named_expression_faults.proofs.scope.Scope.in_index.Goals as goal

pub returns-in-None : goal.returns-in-None
returns-in-None c =
    let scope = scope_of c.args.self.now in
    let e = expression_of c.args.index.now in
    subst (λ s. IsFirstOf (λ f. IsInIndex (λ g. IsInExpression scope e g) scope e s f) c.args.inside) (sym c.in-None.is) c.requires.inside

pub returns-in-Some-inside : goal.returns-in-Some-inside
returns-in-Some-inside c =
    let scope = scope_of c.args.self.now in
    let e = expression_of c.args.index.now in
    subst (λ s. IsFirstOf (λ f. IsInIndex (λ g. IsInExpression scope e g) scope e s f) (Some c.in-Some-inside.fault)) (sym c.in-Some.is)
    (index_with_fault (λ g. IsInExpression scope e g) scope e c.in-Some.size c.in-Some-inside.fault
    (subst (λ r. IsFirstOf (λ f. IsInExpression scope e f) r) c.in-Some-inside.is c.requires.inside))

pub beyond-requires-clause-clean : goal.beyond-requires-clause-clean
beyond-requires-clause-clean c =
    let scope = scope_of c.args.self.now in
    let e = expression_of c.args.index.now in
    none_found (λ g. IsInExpression scope e g) c.args.inside c.in-None-inside.is c.requires.inside

pub returns-in-None-inside : goal.returns-in-None-inside
returns-in-None-inside c =
    let scope = scope_of c.args.self.now in
    let e = expression_of c.args.index.now in
    let clean = none_found (λ g. IsInExpression scope e g) c.args.inside c.in-None-inside.is c.requires.inside in
    if_ok (λ found. IsFirstOf (λ f. IsBeyond (λ g. IsInExpression scope e g) scope e c.in-Some.size f) found)
    (λ found. IsFirstOf (λ f. IsInIndex (λ g. IsInExpression scope e g) scope e c.args.size f) found) c.beyond.result
    (λ found h. subst (λ s. IsFirstOf (λ f. IsInIndex (λ g. IsInExpression scope e g) scope e s f) found) (sym c.in-Some.is)
    (index_without (λ g. IsInExpression scope e g) scope e c.in-Some.size found clean h))
    c.beyond.ensures
