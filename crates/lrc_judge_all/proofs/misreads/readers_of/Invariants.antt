use Rattle.std.proofs.Common.{List, ℕ, ◌≡◌, vec_len}
use Rattle.lrc_trace.specs.declared.act.Act.{Act}
use Rattle.lrc_judge_all.specs.Known.{AreReaders}
use Rattle.lrc_judge_all.proofs.misreads.readers_of.Given as goal

-- so many readers know nothing
abbrev pub invariant-loop-node : goal.invariant-loop-node
invariant-loop-node l = record {
  many : vec_len l.readers ≡ l._node;
  readers : (run : List Act) (n : ℕ) → AreReaders run n l.readers.items;
}
