-- The constant is declared.
use Rattle.std.proofs.Common.{subst}
use Rattle.lrc_named_tree.specs.View.{expression_of, named_of}
use Rattle.lrc_named_names.specs.View.{declared_of}
use Rattle.lrc_named_faults.specs.Found.{IsNamedConstantFound}
use Rattle.lrc_named_faults.proofs.Declaring.{constant_declared}
use Rattle.lrc_named_faults.proofs.layout.Layout.declare_constant.Goals as goal

pub returns-in_ok-declare-in-Good : goal.returns-in_ok-declare-in-Good
returns-in_ok-declare-in-Good c =
    let named = named_of c.args.name in
    let e = expression_of c.args.value.now in
    constant_declared c.args.self.now c.declare.new.self c.args.at c.in-Good.value named e c.nothing.result c.requires c.in_ok-declare-in-Good.ensures
    (subst (λ r. IsNamedConstantFound (declared_of c.args.self.now.names) named e r) c.in-Good.is c.in_ok-fault.ensures)
