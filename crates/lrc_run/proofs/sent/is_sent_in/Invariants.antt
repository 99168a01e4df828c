use Rattle.std.proofs.Common.{◌≡◌, ◌<◌, ℕ, Some}
use Rattle.std.specs.Prelude.{slice_get}
use Rattle.lrc_protocol.specs.Run.{EntryRecord}
use Rattle.lrc_run.specs.Sources.{IsAmong, IsNextTo}
use Rattle.lrc_run.proofs.sent.is_sent_in.Given as goal

-- none of the turns so far has it
abbrev pub invariant-loop-turn : goal.invariant-loop-turn
invariant-loop-turn l = (k : ℕ) (turn : EntryRecord) → k < l.turn-index → slice_get l.log k ≡ Some turn
    → IsNextTo l.last turn.stamp l.stamp → IsAmong turn.turn.out l.envelope → ⊥
