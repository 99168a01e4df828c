-- Of the threads so far it is known what they do next.
use Rattle.std.proofs.Common.{◌≡◌, length, map, take}
use Rattle.lrc_orders_table.specs.Nexts.{next_in}
use Rattle.lrc_orders_table.proofs.known.complete.Given as goal

abbrev pub invariant-loop-place : goal.invariant-loop-place
invariant-loop-place l = record {
  known : l.nexts.items ≡ map (next_in l.flat) (take l.place l.spots);
  count : length l.nexts.items ≡ l.place;
}
