-- The events on lesser lines stand before all others.
use Rattle.std.proofs.Common.{◌≡◌, ℕ, List, Bool, true, false, get_or, inl, inr, ap, arith, rules}
use Rattle.std.specs.Prelude.{nat_lt}
use Rattle.std.specs.List.Sorted.{IsNonDecreasingBy, IsPartitionPoint}
use Rattle.std.proofs.lemmas.Bool.{cases_eq, ltb-true, ltb-false}
use Rattle.std.proofs.lemmas.List.Sorted.{IsPartitionedBy-ltb, IsPartitionPoint-from_clause}
use Rattle.lrc_races_trace.specs.declared.event.Event.{Event}
use Rattle.lrc_races_witness.specs.Relations.{AreByLine}
use Rattle.lrc_races_claims.proofs.access.place_of.Goals as goal
use Rattle.lrc_races_claims.proofs.access.place_of.Goals.{After-partition_point}

abbrev line_of : Event → ℕ
line_of event = event.line

never_falls : (events : List Event) → AreByLine events → IsNonDecreasingBy line_of events
never_falls events ascending i j d le within =
    elim (cases_eq i j) [
      | inl same ↦ let e = ap (λ k. line_of (get_or events k d)) same in omega arith
      | inr other ↦ let less = ascending i j d (omega arith) within in omega arith
    ]

abbrev is_below : ℕ → Event → Bool
is_below line event = nat_lt (line_of event) line

point : (c : After-partition_point) → AreByLine c.args.events.now
    → IsPartitionPoint (λ event. is_below c.args.line event ≡ true) (λ event. is_below c.args.line event ≡ false) c.args.events.now c.partition_point.result
point c ascending =
    IsPartitionPoint-from_clause (is_below c.args.line) c.args.events.now c.partition_point.result c.partition_point.ensures.partitioned
    (IsPartitionedBy-ltb line_of c.args.events.now c.args.line (never_falls c.args.events.now ascending)) (λ a r f' h. (search rules, search rules))

pub returns-clause-place : goal.returns-clause-place
returns-clause-place c = λ ascending. record {
  within = c.partition_point.ensures.bound;
  below = λ k d lt. ltb-true (line_of (get_or c.args.events.now k d)) c.args.line ((point c ascending).0 k d (omega arith) lt);
  reached = λ d lt. ltb-false (line_of (get_or c.args.events.now c.partition_point.result d)) c.args.line
      ((point c ascending).1 c.partition_point.result d (omega arith) lt);
}
