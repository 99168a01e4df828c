-- The parameters so far, and those that are left.
use Rattle.std.proofs.Common.{◌<◌, ◌≤◌, min, length, map, sym, ap, ◌++◌, ◌∙◌, arith, append-nil}
use Rattle.lrc_named_tree.specs.View.{named_of}
use Rattle.lrc_named_constants.specs.Constant.{bound}
use Rattle.lrc_named_constants.specs.View.{known_of}
use Rattle.lrc_named_constants.proofs.Each.{bind_step, bound_past}
use Rattle.lrc_named_constants.proofs.expressions.bind.Goals as goal

pub loop-i-preserved : goal.loop-i-preserved
loop-i-preserved c =
    let ps = c.args.parameters.now in
    let ws = c.args.constancies.now in
    let lt : c.loop-i.i < length ps = omega (arith, c.min-i-end.ensures, c.loop-i-test.true) in
    let less : c.loop-i.i < length ws = omega (arith, c.min-i-end.ensures, c.loop-i-test.true) in
    bind_step c.loop-i.known.items c.push.new.self.items ps ws c.loop-i.i (bound (map named_of ps) ws) _ _ lt less c.in_ok-push.ensures.items c.loop-i.invariant

pub returns : goal.returns
returns c =
    let h : min (length c.args.parameters.now) (length c.args.constancies.now) ≤ c.loop-i.i = omega (arith, c.min-i-end.ensures, c.loop-i-test.false) in
    sym (append-nil (map known_of c.loop-i.known.items))
    ∙ ap (λ l. map known_of c.loop-i.known.items ++ l) (sym (bound_past c.args.parameters.now c.args.constancies.now c.loop-i.i h))
    ∙ c.loop-i.invariant
