-- The map has what was last written, and the reads so far are in order.
use Rattle.std.proofs.Common.{ℕ, ◌<◌}
use Rattle.lrc_trace.specs.declared.act.Deed.TheVariants.{Read}
use Rattle.lrc_trace.specs.Run.{IsDone}
use Rattle.lrc_judge.specs.InOrder.{IsLastWritten}
use Rattle.lrc_judge.proofs.LastWritten.{IsMemory}
use Rattle.lrc_judge.proofs.in_order.first_out_of_order.Given as goal

abbrev pub invariant-loop-position : goal.invariant-loop-position
invariant-loop-position l = record {
  memory : IsMemory l.acts l.position l.memory;
  reads : (j w v : ℕ) → j < l.position → IsDone l.acts j (Read w v) → IsLastWritten l.acts j w v;
}
