use Rattle.std.proofs.Common.{◌≡◌, ◌++◌, map, take}
use Rattle.lrc_text.specs.Each.{each}
use Rattle.lrc_chart_build.specs.Bands.{band_if}
use Rattle.lrc_chart_build.specs.Seen.{seen_band}
use Rattle.lrc_chart_build.proofs.bands.push_bands.Given as goal

-- the bands of the numbers so far
abbrev pub invariant-loop-place : goal.invariant-loop-place
invariant-loop-place l = map seen_band l.bands.items ≡ map seen_band l.initial.bands.items ++ each (band_if l.numbers) (take l.place l.numbers)
