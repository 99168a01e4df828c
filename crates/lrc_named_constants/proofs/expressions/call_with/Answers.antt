-- An argument that varies makes the call vary, and no other changes what is known of it.
use Rattle.std.proofs.Common.{sym, ◌∙◌}
use Rattle.lrc_named_constants.specs.Combine.{called}
use Rattle.lrc_named_constants.proofs.Each.{called_step, called_varying}
use Rattle.lrc_named_constants.proofs.expressions.call_with.Goals as goal

pub loop-argument-preserved : goal.loop-argument-preserved
loop-argument-preserved c =
    called_step c.args.arguments.now c.loop-argument.argument-index _ c.args.body (called c.args.arguments.now c.args.body) c.loop-argument-test.true
    (sym c.is_varying.ensures ∙ c.if-is_varying.false) c.loop-argument.invariant

pub returns-then-is_varying : goal.returns-then-is_varying
returns-then-is_varying c =
    called_varying c.args.arguments.now c.loop-argument.argument-index _ c.args.body (called c.args.arguments.now c.args.body) c.loop-argument-test.true
    (sym c.is_varying.ensures ∙ c.if-is_varying.true) c.loop-argument.invariant
