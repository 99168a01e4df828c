use Rattle.std.proofs.Common.{◌≡◌, ◌+◌, ◌≤◌, length, map, vec_capacity}
use Rattle.std.specs.Vec.Iter.{into_iter_items}
use Rattle.lrc_threads.specs.Threads.{ArePastsOwed}
use Rattle.lrc_threads.proofs.nodes.joined.Given as goal

-- what the threads so far left, and room for the others
abbrev pub invariant-loop-thread : goal.invariant-loop-thread
invariant-loop-thread g l = record {
  owed : ArePastsOwed (map (λ handle. handle.promise) l.yielded) l.pasts.items;
  few : length l.pasts.items + length (into_iter_items l.thread-iterator) ≤ vec_capacity l.pasts;
  room : vec_capacity l.pasts ≡ vec_capacity l.initial.pasts;
}
