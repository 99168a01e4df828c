use Rattle.std.proofs.Common.{arith, rules}
use Rattle.std.proofs.lemmas.Grind.{common_steps}
use Rattle.std.proofs.lemmas.List.Elements.{All-more}
use Rattle.lrc_threads.specs.Worker.{IsShort}
use Rattle.lrc_threads.proofs.worker.parcels_of.Goals as goal

pub loop-envelope-preserved : goal.loop-envelope-preserved
loop-envelope-preserved c = record {
  shown = grind (arith, common_steps);
  short = All-more IsShort c.args.out.now c.loop-envelope.envelope-index c.envelope-item.result (search rules)
      c.loop-envelope.invariant.short (search rules);
}
