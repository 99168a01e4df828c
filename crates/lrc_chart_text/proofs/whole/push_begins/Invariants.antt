use Rattle.std.proofs.Common.{◌≡◌, ◌++◌, take, length}
use Rattle.std.specs.Prelude.{◌==◌, codes}
use Rattle.std.specs.List.{flat_map}
use Rattle.lrc_chart_text.specs.Lines.{lines_text}
use Rattle.lrc_chart_text.specs.Sketch.{band_lines, lines_if}
use Rattle.lrc_chart_text.proofs.whole.push_begins.Given as goal

abbrev pub invariant-loop-band : goal.invariant-loop-band
invariant-loop-band l =
    l.text.items ≡ l.initial.text.items ++ lines_text
    (flat_map (λ band. lines_if (band.from == l.number) (band_lines (length l.picture.columns.items) (codes " from here") band)) (take l.band-index l.picture.bands.items))
