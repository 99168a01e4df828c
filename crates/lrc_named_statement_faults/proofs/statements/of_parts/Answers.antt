-- The first fault of the parts from one on.
use Rattle.std.proofs.Common.{◌≡◌, ◌-◌, ◌≤◌, suc, length, drop, map, subst, arith}
use Rattle.lrc_named_expression_faults.specs.Fault.{IsFirstOf}
use Rattle.lrc_named_expression_faults.specs.View.{scope_of}
use Rattle.lrc_named_statement_faults.specs.Parts.{part_seen}
use Rattle.lrc_named_statement_faults.specs.Statements.{IsInParts}
use Rattle.lrc_named_statement_faults.proofs.Senses.{no_part_left, parts_step}
use Rattle.lrc_named_statement_faults.proofs.statements.of_parts.Goals as goal

pub loop-i-init : goal.loop-i-init
loop-i-init c = no_part_left (scope_of c.args.scope.now) c.args.parts.now

pub loop-i-preserved : goal.loop-i-preserved
loop-i-preserved c =
    let i = c.loop-i.i in
    let back : suc (i - 1) ≡ i = omega (arith, c.loop-i-test.true) in
    let within : suc (i - 1) ≤ length c.args.parts.now = omega (arith, c.loop-i-test.true) in
    parts_step (scope_of c.args.scope.now) c.args.parts.now i (i - 1) c.index-parts-i.result c.in_ok-one.one c.loop-i.first c.earlier-first.result back within c.index-parts-i.is c.earlier-first.ensures
    c.in_ok-one.ensures c.loop-i.invariant

pub returns : goal.returns
returns c =
    let all : c.loop-i.i ≡ 0 = omega (arith, c.loop-i-test.false) in
    subst (λ k. IsFirstOf (λ f. IsInParts (scope_of c.args.scope.now) (map part_seen (drop k c.args.parts.now)) f) c.loop-i.first) all c.loop-i.invariant
