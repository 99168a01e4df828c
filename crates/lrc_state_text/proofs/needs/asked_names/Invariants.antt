-- What was added so far.
use Rattle.std.proofs.Common.{◌≡◌, take}
use Rattle.lrc_state_text.specs.Needs.{asked_names}
use Rattle.lrc_state_text.proofs.needs.asked_names.Given as goal

abbrev pub invariant-loop-asked : goal.invariant-loop-asked
invariant-loop-asked l = l.names.items ≡ asked_names (take l.asked-index l.all)
