use Rattle.std.proofs.Common.{rules, ◌+◌, take, map, subst}
use Rattle.lrc_weave.specs.Again.{AreAgain, AreAllAgain}
use Rattle.lrc_weave.proofs.Repeated.{all_step}
use Rattle.lrc_weave.proofs.again.all_again.Goals as goal

pub loop-log-preserved : goal.loop-log-preserved
loop-log-preserved c =
    subst (λ all. AreAllAgain (map (λ log. log.items) (take (c.loop-log.log-index + 1) c.args.logs.now)) (map (λ bits. bits.items) all)) (search rules)
    (all_step (λ log. log.items) (λ bits. bits.items) c.args.logs.now c.loop-log.log-index c.log-item.result c.loop-log.all.items
    c.in_ok-again_of.field-0 (search rules) (search rules) c.loop-log.invariant
    (subst (λ log. AreAgain log c.in_ok-again_of.field-0.items) c.as_slice.ensures.value c.in_ok-again_of.ensures))
