use Rattle.std.proofs.Common.{◌≡◌, map}
use Rattle.std.specs.Prelude.{slice_index}
use Rattle.std.specs.List.{range_with_len}
use Rattle.lrc_source.proofs.read_text.lines_to.Given as goal

-- the lines at the places before the next one
abbrev pub invariant-loop-number : goal.invariant-loop-number
invariant-loop-number l = l.lines.items ≡ map (λ number. slice_index l.given number) (range_with_len 0 l.number)
