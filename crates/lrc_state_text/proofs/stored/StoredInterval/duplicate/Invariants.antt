-- What was copied so far.
use Rattle.std.proofs.Common.{◌≡◌, take}
use Rattle.lrc_state_text.proofs.stored.StoredInterval.duplicate.Given as goal

abbrev pub invariant-loop-part : goal.invariant-loop-part
invariant-loop-part l = l.changes.items ≡ take l.part-index l.part-items
