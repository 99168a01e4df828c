use Rattle.std.proofs.Common.{◌≡◌, ◌<◌, ℕ, Some, map, take}
use Rattle.std.specs.Prelude.{slice_get}
use Rattle.lrc_protocol.specs.Run.{EntryRecord, last_stamp}
use Rattle.lrc_run.specs.Sources.{IsTakeSent}
use Rattle.lrc_run.proofs.sent.are_sent_to.Given as goal

-- so it is of the entries so far, and the stamp is the last one's
abbrev pub invariant-loop-entry : goal.invariant-loop-entry
invariant-loop-entry l = record {
  last_is : l.last ≡ last_stamp (take l.entry-index l.log);
  sent : (k : ℕ) (entry : EntryRecord) → k < l.entry-index → slice_get l.log k ≡ Some entry
      → IsTakeSent (map (λ log. log.items) l.logs) l.node (last_stamp (take k l.log)) entry;
}
