-- The values of the one and those of the other so far.
use Rattle.std.proofs.Common.{ℕ, ◌⊎◌}
use Rattle.std.specs.Prelude.{◌↔◌, Contains}
use Rattle.lrc_lazy_known.specs.Tidy.{IsRising}
use Rattle.lrc_lazy_known.proofs.Made.{IsAmong}
use Rattle.lrc_lazy_known.proofs.word.joined.Given as goal

abbrev pub invariant-loop-place : goal.invariant-loop-place
invariant-loop-place l = record {
  values : (v : ℕ) → Contains l.all.items v ↔ (Contains l.own v ⊎ IsAmong l.more l.place v);
  rising : IsRising l.own → IsRising l.all.items;
}
