-- What was added so far.
use Rattle.std.proofs.Common.{◌≡◌, ◌++◌, map, take}
use Rattle.lrc_state_text.specs.Needs.{name_of}
use Rattle.lrc_state_text.proofs.needs.put_names.Given as goal

abbrev pub invariant-loop-place : goal.invariant-loop-place
invariant-loop-place l = l.names.items ≡ l.fn.names.items ++ map (name_of l.node) (take l.place l.indices)
