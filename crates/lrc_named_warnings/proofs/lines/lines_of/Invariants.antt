-- The warnings so far are in words.
use Rattle.std.proofs.Common.{◌≡◌, map, take}
use Rattle.lrc_named_warnings.specs.Context.{context_seen}
use Rattle.lrc_named_warnings.specs.Lines.{line_of}
use Rattle.lrc_named_warnings.specs.Seen.{line_seen}
use Rattle.lrc_named_warnings.proofs.lines.lines_of.Given as goal

abbrev pub invariant-loop-note : goal.invariant-loop-note
invariant-loop-note l = map line_seen l.lines.items ≡ map (line_of (context_seen l.context)) (take l.note-index l.notes)
