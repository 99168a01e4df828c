-- The places of lower threads stand before all others.
use Rattle.std.proofs.Common.{◌≡◌, ℕ, List, Bool, true, false, get_or, inl, inr, ap, arith, rules}
use Rattle.std.specs.Prelude.{nat_lt}
use Rattle.std.specs.List.Sorted.{IsNonDecreasingBy, IsPartitionPoint}
use Rattle.std.proofs.lemmas.Bool.{cases_eq, ltb-true, ltb-false}
use Rattle.std.proofs.lemmas.List.Sorted.{IsPartitionedBy-ltb, IsPartitionPoint-from_clause}
use Rattle.lrc_races_detector.specs.declared.places.Place.{Place}
use Rattle.lrc_races_detector.specs.Placed.{AreOrdered}
use Rattle.lrc_races_detector.proofs.places.place_of.Goals as goal
use Rattle.lrc_races_detector.proofs.places.place_of.Goals.{After-partition_point}

abbrev thread_in : Place → ℕ
thread_in place = place.thread

never_falls : (order : List Place) → AreOrdered order → IsNonDecreasingBy thread_in order
never_falls order ordered i j d le within =
    elim (cases_eq i j) [
      | inl same ↦ let e = ap (λ k. thread_in (get_or order k d)) same in omega arith
      | inr other ↦ let less = ordered i j d (omega arith) within in omega arith
    ]

abbrev is_below : ℕ → Place → Bool
is_below thread place = nat_lt (thread_in place) thread

point : (c : After-partition_point) → IsPartitionPoint (λ place. is_below c.args.thread place ≡ true) (λ place. is_below c.args.thread place ≡ false) c.args.order.now c.partition_point.result
point c =
    IsPartitionPoint-from_clause (is_below c.args.thread) c.args.order.now c.partition_point.result c.partition_point.ensures.partitioned
    (IsPartitionedBy-ltb thread_in c.args.order.now c.args.thread (never_falls c.args.order.now c.requires)) (λ a r f' h. (search rules, search rules))

pub returns : goal.returns
returns c = record {
  within = c.partition_point.ensures.bound;
  below = λ k d lt. ltb-true (thread_in (get_or c.args.order.now k d)) c.args.thread ((point c).0 k d (omega arith) lt);
  reached = λ k d le lt. ltb-false (thread_in (get_or c.args.order.now k d)) c.args.thread ((point c).1 k d le lt);
}
