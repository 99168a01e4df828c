-- The flat code begins where the plain machine does.
use Rattle.std.proofs.Common.{◌<◌, ◌≤◌, ℕ, arith, subst, sym}
use Rattle.lrc_program.specs.declared.Program.{Program}
use Rattle.lrc_exec.specs.Nodes.{AreNodes}
use Rattle.lrc_exec.specs.Spots.{IsFlat, IsFlatOf}
use Rattle.lrc_exec.proofs.Beginning.{begun_is}
use Rattle.lrc_lazy_run.specs.declared.sought.Sought.{Sought}
use Rattle.lrc_lazy_run.specs.Ways.{IsSought}
use Rattle.lrc_lazy_run.proofs.sought.sought_in.Goals as goal

is_sought : (sought : Sought) (nodes : ℕ) → IsFlat sought.flat → IsFlatOf sought.program.now nodes sought.flat sought.start → AreNodes nodes → IsSought sought
is_sought sought nodes sound of are = record {
  flat = sound;
  code = of.code;
  placed = of.code.within;
  words = of.words;
  locks = of.locks;
  some = let some = are.0 in let count = of.nodes in omega (arith, some, count);
  few = let few = are.1 in let count = of.nodes in omega (arith, few, count);
  begun = begun_is sought.program.now sought.flat sought.start of.words of.locks of.code.leads;
}

pub returns-clause-sought : goal.returns-clause-sought
returns-clause-sought c =
    is_sought _ c.args.nodes c.of-start.ensures.flat
    (subst (λ (p : Program). IsFlatOf p c.args.nodes c.of-start.result.0 c.of-start.result.1) (sym c.program.ensures) c.of-start.ensures.program)
    c.requires
