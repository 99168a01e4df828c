-- The name, and the value.
use Rattle.std.proofs.Common.{[], subst}
use Rattle.lrc_named_tree.specs.View.{expression_of, named_of}
use Rattle.lrc_named_names.specs.View.{declared_of}
use Rattle.lrc_named_faults.specs.Declarations.{IsInConstant, IsInName, constant_scope}
use Rattle.lrc_named_faults.specs.Values.{IsConstantFound}
use Rattle.lrc_named_faults.proofs.Declaring.{clean_constant}
use Rattle.lrc_named_faults.proofs.Laid.{neither, told_with}
use Rattle.lrc_named_faults.proofs.layout.Layout.constant.Goals as goal

pub returns-in-Bad : goal.returns-in-Bad
returns-in-Bad c =
    let table = declared_of c.args.self.now.names in
    let e = expression_of c.args.value.now in
    told_with (λ f. IsInName table [] (named_of c.args.name) f) (λ f. IsInConstant (constant_scope table) e f) c.in_name-own.result c.in-Bad.fault c.told.result
    c.told.ensures c.in_name-own.ensures (subst (λ r. IsConstantFound (constant_scope table) e r) c.in-Bad.is c.in_ok-found.ensures)

pub returns-in-None : goal.returns-in-None
returns-in-None c =
    let table = declared_of c.args.self.now.names in
    let e = expression_of c.args.value.now in
    let good = subst (λ r. IsConstantFound (constant_scope table) e r) c.in-Good.is c.in_ok-found.ensures in (
      neither (λ f. IsInName table [] (named_of c.args.name) f) (λ f. IsInConstant (constant_scope table) e f) c.in-None.ensures
          (clean_constant table e c.in-Good.value good),
      good.1,
    )
