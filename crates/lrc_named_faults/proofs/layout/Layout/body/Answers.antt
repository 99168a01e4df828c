-- What is declared is sound, and the parameters vary.
use Rattle.std.proofs.Common.{false, map, ap, sym, subst, ◌∙◌}
use Rattle.std.specs.Prelude.{IfOk}
use Rattle.lrc_named_tree.specs.View.{expression_of, named_of}
use Rattle.lrc_named_names.specs.View.{declared_of}
use Rattle.lrc_named_constants.specs.Constant.{names_of}
use Rattle.lrc_named_constants.specs.View.{known_of}
use Rattle.lrc_named_constants.specs.Well.{bytes_of}
use Rattle.lrc_named_expression_faults.specs.Extent.{AreExtents}
use Rattle.lrc_named_faults.specs.Declarations.{varying}
use Rattle.lrc_named_faults.specs.Values.{IsBodyFound}
use Rattle.lrc_named_faults.proofs.Declaring.{varying_names}
use Rattle.lrc_named_faults.proofs.Laid.{laid_out_is_sound}
use Rattle.lrc_named_faults.proofs.layout.Layout.body.Goals as goal

pub body-requires-clause-table : goal.body-requires-clause-table
body-requires-clause-table c = laid_out_is_sound c.args.self.now c.requires

pub body-requires-clause-extents : goal.body-requires-clause-extents
body-requires-clause-extents c = subst (λ l. AreExtents (declared_of c.args.self.now.names) l) (sym c.deref.ensures.value) c.requires.extents

pub invariant_of-scope : goal.invariant_of-scope
invariant_of-scope c = record {
  alike = ap names_of (ap (map known_of) c.deref-2.ensures.value ∙ c.in_ok-known.ensures) ∙ varying_names (map named_of c.args.parameters.now)
      ∙ ap (λ l. bytes_of (map named_of l)) (sym c.in_ok-spelled.ensures);
}

pub returns : goal.returns
returns c =
    let table = declared_of c.args.self.now.names in
    let own = map named_of c.args.parameters.now in
    let e = expression_of c.args.expression.now in
    subst (λ l. IfOk c.body.result (λ found. IsBodyFound (record { declared = table; known = varying own; assigned = bytes_of (map named_of l); constant = false }) e found))
    c.none-none.ensures
    (subst (λ l. IfOk c.body.result
    (λ found. IsBodyFound (record { declared = table; known = l; assigned = bytes_of (map named_of c.none-none.result.names.now); constant = false }) e found))
    (ap (map known_of) c.deref-2.ensures.value ∙ c.in_ok-known.ensures) c.body.ensures)
