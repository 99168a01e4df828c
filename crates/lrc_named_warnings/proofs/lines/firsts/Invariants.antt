-- The lines so far are told, but those that an earlier one is the same as.
use Rattle.std.proofs.Common.{◌≡◌, map, take}
use Rattle.lrc_text.specs.Each.{each}
use Rattle.lrc_named_warnings.specs.Lines.{unless_told}
use Rattle.lrc_named_warnings.specs.Seen.{line_seen}
use Rattle.lrc_named_warnings.proofs.lines.firsts.Given as goal

abbrev pub invariant-loop-i : goal.invariant-loop-i
invariant-loop-i l =
    map (λ line. line_seen line.now) l.told.items
    ≡ each (λ i line. unless_told (take i (map line_seen l.lines)) line) (take l.i (map line_seen l.lines))
