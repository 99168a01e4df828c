-- The flat code begins where the plain machine does.
use Rattle.std.proofs.Common.{◌<◌, ℕ, arith, subst, sym}
use Rattle.lrc_program.specs.declared.Program.{Program}
use Rattle.lrc_exec.specs.Spots.{IsFlat, IsFlatOf}
use Rattle.lrc_exec.proofs.Beginning.{begun_is}
use Rattle.lrc_lazy_search.specs.declared.search.Task.{Task}
use Rattle.lrc_lazy_search.specs.Task.{IsTask}
use Rattle.lrc_lazy_search.proofs.search.task_of.Goals as goal

is_task : (task : Task) (nodes : ℕ) → IsFlat task.flat → IsFlatOf task.program.now nodes task.flat task.start → 0 < nodes → IsTask task
is_task task nodes sound of some = record {
  flat = sound;
  code = of.code;
  placed = of.code.within;
  words = of.words;
  locks = of.locks;
  some = subst (λ count. 0 < count) (sym of.nodes) some;
  begun = begun_is task.program.now task.flat task.start of.words of.locks of.code.leads;
}

pub returns-clause-task : goal.returns-clause-task
returns-clause-task c =
    let some = c.requires.0 in
    is_task _ c.args.nodes c.of-start.ensures.flat
    (subst (λ (p : Program). IsFlatOf p c.args.nodes c.of-start.result.0 c.of-start.result.1) (sym c.program.ensures) c.of-start.ensures.program)
    (omega (arith, some))
