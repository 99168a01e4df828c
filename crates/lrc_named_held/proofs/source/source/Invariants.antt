-- The tokens that the loop has passed, each with what stands behind it.
use Rattle.std.proofs.Common.{◌≡◌, ◌≤◌, ◌-◌}
use Rattle.std.specs.List.{flat_map, range_with_len}
use Rattle.lrc_named_held.specs.Source.{bytes_from, with_gap}
use Rattle.lrc_named_held.proofs.source.source.Given as goal

abbrev pub invariant-loop-token : goal.invariant-loop-token
invariant-loop-token l = record {
  passed : l.out.items ≡ flat_map (λ token. with_gap (bytes_from l.text l.offsets token)) (range_with_len l.first (l.token - l.first));
  none : l.last ≤ l.first → l.token ≡ l.first;
}
