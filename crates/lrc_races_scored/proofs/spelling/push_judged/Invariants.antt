-- The lines so far are added.
use Rattle.std.proofs.Common.{◌≡◌, ◌++◌, take}
use Rattle.std.specs.Prelude.{flat_map, zip}
use Rattle.lrc_races_lines.specs.Table.{names_of}
use Rattle.lrc_races_scored.specs.Spelled.{judged_line}
use Rattle.lrc_races_scored.proofs.spelling.push_judged.Given as goal

abbrev pub invariant-loop-place : goal.invariant-loop-place
invariant-loop-place l =
    l.text.items ≡ l.initial.text.items ++ flat_map (judged_line l.fn.sought (names_of l.threads)) (take l.place (zip l.claims l.verdicts))
