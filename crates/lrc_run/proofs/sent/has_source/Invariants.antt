use Rattle.std.proofs.Common.{◌≡◌, ◌<◌, ℕ, List, Some, map}
use Rattle.std.specs.Prelude.{slice_get}
use Rattle.lrc_protocol.specs.Run.{EntryRecord}
use Rattle.lrc_run.specs.Sources.{IsSentIn}
use Rattle.lrc_run.proofs.sent.has_source.Given as goal

-- none of the logs so far has it
abbrev pub invariant-loop-log : goal.invariant-loop-log
invariant-loop-log l = (k : ℕ) (log : List EntryRecord) → k < l.log-index → slice_get (map (λ log. log.items) l.logs) k ≡ Some log
    → IsSentIn log l.last l.stamp l.envelope → ⊥
