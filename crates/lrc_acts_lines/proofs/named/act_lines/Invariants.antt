-- The lines of the acts so far.
use Rattle.std.proofs.Common.{◌≡◌, ◌<◌, ◌-◌, ℕ, [], get_or, length, map}
use Rattle.std.specs.Prelude.{slice_index}
use Rattle.lrc_acts_lines.specs.Named.{IsLineTold}
use Rattle.lrc_acts_lines.proofs.named.act_lines.Given as goal

abbrev pub invariant-loop-at : goal.invariant-loop-at
invariant-loop-at l = record {
  many : length l.told.items ≡ l.at;
  each : (k : ℕ) → k < l.at
      → IsLineTold (get_or (map (λ line. line.now) l.lines.items) (slice_index l.numbers k - 1) []) (slice_index l.numbers k) (slice_index l.told.items k);
}
