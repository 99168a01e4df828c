use Rattle.std.proofs.Common.{◌≡◌, ◌∙◌, None, Some, ap, arith, below_more}
use Rattle.std.specs.Prelude.{slice_get}
use Rattle.std.proofs.lemmas.Option.{slice_get-get_or}
use Rattle.lrc_threads.proofs.life.first_failure.Goals as goal

pub returns-in-Some : goal.returns-in-Some
returns-in-Some c = record {
  here = slice_get-get_or c.args.stops.now c.loop-node.node None c.loop-node-test.true ∙ ap Some c.in-Some.is;
  before = c.loop-node.invariant;
}

pub loop-node-preserved : goal.loop-node-preserved
loop-node-preserved c =
    below_more (λ n. slice_get c.args.stops.now n ≡ Some None) c.loop-node.node c.loop-node.invariant
    (slice_get-get_or c.args.stops.now c.loop-node.node None c.loop-node-test.true ∙ ap Some c.in_default.is)

pub returns : goal.returns
returns c = λ n inside. c.loop-node.invariant n (omega (arith, inside, c.loop-node-test.false))
