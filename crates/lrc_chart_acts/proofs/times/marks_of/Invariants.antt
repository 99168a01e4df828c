use Rattle.std.proofs.Common.{◌≡◌, ◌<◌, ℕ, false, get_or, length, take}
use Rattle.std.specs.Prelude.{is_some}
use Rattle.lrc_chart_build.specs.Course.{shown_act}
use Rattle.lrc_chart_acts.proofs.times.marks_of.Given as goal

-- those of the places so far
abbrev pub invariant-loop-place : goal.invariant-loop-place
invariant-loop-place l = record {
  many : length l.marks.items ≡ l.count;
  marks : (k : ℕ) → k < l.count → get_or l.marks.items k false ≡ is_some (shown_act (take l.place-index l.places) k);
}
