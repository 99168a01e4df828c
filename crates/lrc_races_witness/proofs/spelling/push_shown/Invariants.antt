-- The lines so far are added.
use Rattle.std.proofs.Common.{◌≡◌, ◌++◌, take}
use Rattle.lrc_races_witness.specs.Spelled.{shown_lines}
use Rattle.lrc_races_witness.proofs.spelling.push_shown.Given as goal

abbrev pub invariant-loop-position : goal.invariant-loop-position
invariant-loop-position l = l.text.items ≡ l.initial.text.items ++ shown_lines l.lines (take l.position-index l.positions)
