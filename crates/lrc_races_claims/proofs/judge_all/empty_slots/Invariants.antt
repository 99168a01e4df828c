-- Nothing is kept in the slots so far.
use Rattle.std.proofs.Common.{◌≡◌}
use Rattle.std.specs.Prelude.{vec_len}
use Rattle.lrc_races_claims.specs.Judge.{AreEmpty}
use Rattle.lrc_races_claims.proofs.judge_all.empty_slots.Given as goal

abbrev pub invariant-loop-place : goal.invariant-loop-place
invariant-loop-place l = record { empty : AreEmpty l.slots.items; long : vec_len l.slots ≡ l._place }
