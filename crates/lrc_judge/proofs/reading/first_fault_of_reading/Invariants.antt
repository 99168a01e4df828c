-- The reads so far give what they may give, and of each write so far it is known whether the writes before it are ordered.
use Rattle.std.proofs.Common.{◌≡◌, ℕ, ◌<◌, length}
use Rattle.lrc_trace.specs.declared.act.Deed.TheVariants.{Read}
use Rattle.lrc_trace.specs.Run.{IsDone}
use Rattle.lrc_trace.specs.Reading.{MayRead}
use Rattle.lrc_judge.specs.Written.{AreFlags}
use Rattle.lrc_judge.proofs.reading.first_fault_of_reading.Given as goal

abbrev pub invariant-loop-position : goal.invariant-loop-position
invariant-loop-position l = record {
  lazy : (j word value : ℕ) → j < l.position → IsDone l.acts j (Read word value) → MayRead l.acts j word value;
  long : length l.ordered.items ≡ l.position;
  flags : AreFlags l.acts l.position l.ordered.items;
}
