-- The lines so far.
use Rattle.std.proofs.Common.{◌≡◌, ◌++◌, [], None, map, take}
use Rattle.std.specs.Prelude.{slice_index_or}
use Rattle.lrc_text.specs.Each.{each}
use Rattle.lrc_text.specs.Parts.{texts_of}
use Rattle.lrc_step.specs.Lines.{lines_in, why_line}
use Rattle.lrc_step.proofs.reason_lines.push_whys.Given as goal

abbrev pub invariant-loop-place : goal.invariant-loop-place
invariant-loop-place l = l.text.items
    ≡ l.initial.text.items ++ each (λ place position. why_line position (lines_in (slice_index_or (texts_of l.printed) place []))
    (slice_index_or (map (λ one. one.items) l.rivals) place []) (slice_index_or l.given place None)) (take l.place l.positions)
