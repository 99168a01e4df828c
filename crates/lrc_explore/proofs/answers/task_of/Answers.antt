-- The flat code begins where the plain machine does.
use Rattle.std.proofs.Common.{ℕ, subst, sym}
use Rattle.lrc_program.specs.declared.Program.{Program}
use Rattle.lrc_exec.specs.Spots.{IsFlat, IsFlatOf}
use Rattle.lrc_exec.proofs.Beginning.{begun_is}
use Rattle.lrc_orders_live.specs.Live.{AreLive}
use Rattle.lrc_explore.specs.declared.task.Task.{Task}
use Rattle.lrc_explore.specs.Reached.{IsTask}
use Rattle.lrc_explore.proofs.answers.task_of.Goals as goal

is_task : (task : Task) (nodes : ℕ) → IsFlat task.flat → IsFlatOf task.program.now nodes task.flat task.start
    → AreLive task.flat.code.now task.live.items → IsTask task
is_task task nodes sound of live = record {
  flat = sound;
  placed = of.code.within;
  begun = begun_is task.program.now task.flat task.start of.words of.locks of.code.leads;
  live = live;
}

pub returns-clause-task : goal.returns-clause-task
returns-clause-task c = is_task _ c.args.nodes c.of-start.ensures.flat
    (subst (λ (p : Program). IsFlatOf p c.args.nodes c.of-start.result.0 c.of-start.result.1) (sym c.program.ensures) c.of-start.ensures.program)
    c.in_ok-live.ensures
