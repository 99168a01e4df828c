-- No parameter so far is an earlier place of the name.
use Rattle.std.proofs.Common.{◌≡◌, None, map, take}
use Rattle.std.specs.List.{find}
use Rattle.lrc_named_tree.specs.View.{named_of}
use Rattle.lrc_named_name_hints.specs.Hints.{stood}
use Rattle.lrc_named_name_hints.proofs.hints.earlier_parameter.Given as goal

abbrev pub invariant-loop-parameter : goal.invariant-loop-parameter
invariant-loop-parameter l = find (stood l.seen.at l.name) (map named_of (take l.parameter-index l.seen.parameters.now)) ≡ None
