-- Those from this place on.
use Rattle.std.proofs.Common.{ℕ, List}
use Rattle.lrc_trace.specs.declared.act.Act.{Act}
use Rattle.lrc_judge.specs.Order.{IsOrderOf}
use Rattle.lrc_why_chains.specs.Writes.{AreExactly, IsKnownWrite}
use Rattle.lrc_why_chains.proofs.KnownWrites.{IsTail}
use Rattle.lrc_why_chains.proofs.writes.unfollowed.Given as goal

abbrev pub invariant-loop-place : goal.invariant-loop-place
invariant-loop-place l = (run : List Act) (position word : ℕ) → IsOrderOf run l.order
    → (known : AreExactly (IsKnownWrite run position word) l.writes) → IsTail run position word l.writes known l.place l.last.items
