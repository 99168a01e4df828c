-- By the value, if there is one.
use Rattle.lrc_named_tree.specs.View.{expression_of}
use Rattle.lrc_named_expression_faults.specs.View.{scope_of}
use Rattle.lrc_named_expression_faults.proofs.Clean.{clean_is_well_here}
use Rattle.lrc_named_expression_faults.proofs.Inside.{value_none, value_some}
use Rattle.lrc_named_index_hint.proofs.Finding.{no_value_over, value_as}
use Rattle.lrc_named_index_hint.proofs.over.clean_over.Goals as goal

pub value-requires-clause-well : goal.value-requires-clause-well
value-requires-clause-well c = clean_is_well_here (scope_of c.args.scope.now) (expression_of c.args.index.now) c.requires.clean

pub returns-in-Some : goal.returns-in-Some
returns-in-Some c =
    let scope = scope_of c.args.scope.now in
    let e = expression_of c.args.index.now in
    value_as scope e c.args.size c.in-Some.value c.over_if.result c.requires.clean (value_some scope e _ c.in-Some.value c.in-Some.is c.in_ok-value.ensures)
    c.over_if.ensures

pub returns-in-None : goal.returns-in-None
returns-in-None c =
    let scope = scope_of c.args.scope.now in
    let e = expression_of c.args.index.now in
    no_value_over scope e c.args.size (value_none scope e _ c.in-None.is c.in_ok-value.ensures)
