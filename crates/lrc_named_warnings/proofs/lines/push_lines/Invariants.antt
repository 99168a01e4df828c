-- The text of the lines so far was added.
use Rattle.std.proofs.Common.{◌≡◌, ◌++◌, map, take}
use Rattle.std.specs.List.{flat_map}
use Rattle.lrc_named_warnings.specs.Lines.{line_text}
use Rattle.lrc_named_warnings.specs.Seen.{line_seen}
use Rattle.lrc_named_warnings.proofs.lines.push_lines.Given as goal

abbrev pub invariant-loop-line : goal.invariant-loop-line
invariant-loop-line l = l.out.items ≡ l.fn.out.items ++ flat_map (line_text l.file) (map (λ line. line_seen line.now) (take l.line-index l.lines))
