-- What was added so far.
use Rattle.std.proofs.Common.{◌≡◌, ◌++◌, map, take}
use Rattle.lrc_state_text.specs.Json.{later}
use Rattle.lrc_state_text.specs.Place.{named_seen, named_text}
use Rattle.lrc_state_text.proofs.place.push_later.Given as goal

abbrev pub invariant-loop-named : goal.invariant-loop-named
invariant-loop-named l = l.text.items ≡ l.fn.text.items ++ later named_text (map named_seen (take l.named-index l.names))
