-- What the arguments that are left say is what all say.
use Rattle.std.proofs.Common.{◌≡◌, drop}
use Rattle.lrc_named_constants.specs.Combine.{called}
use Rattle.lrc_named_constants.proofs.expressions.call_with.Given as goal

abbrev pub invariant-loop-argument : goal.invariant-loop-argument
invariant-loop-argument l = called (drop l.argument-index l.arguments) l.body ≡ called l.arguments l.body
