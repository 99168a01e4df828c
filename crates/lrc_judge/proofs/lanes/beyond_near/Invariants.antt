-- The entries so far are behind.
use Rattle.std.proofs.Common.{◌≡◌, ◌≤◌}
use Rattle.std.specs.Prelude.{true}
use Rattle.std.specs.List.{AllWithin}
use Rattle.lrc_judge.specs.Lanes.{is_behind}
use Rattle.lrc_judge.proofs.lanes.beyond_near.Given as goal

abbrev pub invariant-loop-at : goal.invariant-loop-at
invariant-loop-at l = record {
  from : l.guess ≤ l.at;
  behind : AllWithin (λ e. is_behind l.order l.lane l.position e ≡ true) l.entries 0 l.at;
}
