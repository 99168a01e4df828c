-- The function is declared.
use Rattle.std.proofs.Common.{map, subst}
use Rattle.lrc_named_tree.specs.View.{expression_of, named_of}
use Rattle.lrc_named_names.specs.View.{declared_of}
use Rattle.lrc_named_faults.specs.Found.{IsFunctionFound}
use Rattle.lrc_named_faults.proofs.Declaring.{function_declared}
use Rattle.lrc_named_faults.proofs.layout.Layout.declare_function.Goals as goal

pub returns-in_ok-declare-in-Good : goal.returns-in_ok-declare-in-Good
returns-in_ok-declare-in-Good c =
    let named = named_of c.args.name in
    let own = map named_of c.args.parameters.now in
    let e = expression_of c.args.expression.now in
    function_declared c.args.self.now c.declare.new.self c.args.at named own e c.in-Good.extent c.requires c.in_ok-declare-in-Good.ensures
    (subst (λ r. IsFunctionFound (declared_of c.args.self.now.names) named own e r) c.in-Good.is c.in_ok-fault.ensures)
