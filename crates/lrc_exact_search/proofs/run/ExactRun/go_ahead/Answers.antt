use Rattle.std.proofs.Common.{List, subst, sym}
use Rattle.lrc_trace.specs.declared.act.Act.{Act}
use Rattle.lrc_exact_judge.specs.Shape.{shape_of}
use Rattle.lrc_exact_search.specs.Run.{IsAhead, still, onward}
use Rattle.lrc_exact_search.proofs.run.ExactRun.go_ahead.Goals as goal

pub loop-init : goal.loop-init
loop-init c = record { at = c.requires.at; ahead = still }

pub make-requires-clause-next : goal.make-requires-clause-next
make-requires-clause-next c = (c.lowest.ensures c.in-Some.act c.in-Some.is).longer

pub loop-preserved : goal.loop-preserved
loop-preserved c =
    let task = c.args.task.now in
    record {
      at = c.in_ok-make.ensures.at;
      ahead = subst (λ (xs : List Act). IsAhead task.program.now (shape_of task.layout) c.args.self.now.acts.items xs) (sym c.in_ok-make.ensures.acts)
          (onward c.in-Some.act c.loop.invariant.ahead (c.lowest.ensures c.in-Some.act c.in-Some.is));
    }
