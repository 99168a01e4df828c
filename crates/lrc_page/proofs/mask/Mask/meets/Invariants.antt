use Rattle.std.proofs.Common.{ℕ, ◌≡◌, ◌<◌, get_or}
use Rattle.std.specs.Prelude.{bit_and}
use Rattle.lrc_page.proofs.mask.Mask.meets.Given as goal

abbrev pub invariant-loop-place : goal.invariant-loop-place
invariant-loop-place l = (k : ℕ) → k < l.place → bit_and (get_or l.self-inside.words k 0) (get_or l.other-inside.words k 0) ≡ 0
