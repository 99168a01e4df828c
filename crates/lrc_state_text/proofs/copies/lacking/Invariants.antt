-- What was added so far.
use Rattle.std.proofs.Common.{◌≡◌, take}
use Rattle.lrc_state_text.specs.Copies.{lacking}
use Rattle.lrc_state_text.proofs.copies.lacking.Given as goal

abbrev pub invariant-loop-key : goal.invariant-loop-key
invariant-loop-key l = l.names.items ≡ lacking (take l.key-index l.keys)
