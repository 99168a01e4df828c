-- Each parameter, with those before it.
use Rattle.std.proofs.Common.{◌≡◌, ◌-◌, ◌≤◌, ◌∷◌, suc, length, drop, map, take, refl, subst, arith}
use Rattle.lrc_named_tree.specs.View.{named_of}
use Rattle.lrc_named_names.specs.View.{declared_of}
use Rattle.lrc_named_constants.specs.Well.{bytes_of}
use Rattle.lrc_named_expression_faults.specs.Fault.{IsFirstOf}
use Rattle.lrc_named_faults.specs.Declarations.{IsInParameters}
use Rattle.lrc_named_faults.proofs.Finding.{no_parameter_left, parameters_step}
use Rattle.lrc_named_faults.proofs.values.in_parameters.Goals as goal

pub loop-i-init : goal.loop-i-init
loop-i-init c = no_parameter_left (declared_of c.args.names.now) _ c.args.parameters.now.names.now

pub loop-i-preserved : goal.loop-i-preserved
loop-i-preserved c =
    let table = declared_of c.args.names.now in
    let ps = c.args.parameters.now.names.now in
    let i = c.loop-i.i in
    let back : suc (i - 1) ≡ i = omega (arith, c.loop-i-test.true) in
    let within : suc (i - 1) ≤ length ps = omega (arith, c.loop-i-test.true) in
    parameters_step table (named_of c.args.function).bytes ps (take (i - 1) ps) i (i - 1) _ c.stands-stood.result c.in_name-one.result c.loop-i.first
    c.earlier-first.result back within refl c.earlier-first.ensures c.stands-stood.ensures c.in_name-one.ensures c.loop-i.invariant

pub returns : goal.returns
returns c =
    let table = declared_of c.args.names.now in
    let ps = c.args.parameters.now.names.now in
    let all : c.loop-i.i ≡ 0 = omega (arith, c.loop-i-test.false) in
    subst (λ k. IsFirstOf (λ f. IsInParameters table ((named_of c.args.function).bytes ∷ bytes_of (map named_of (take k ps))) (map named_of (drop k ps)) f) c.loop-i.first)
    all c.loop-i.invariant
