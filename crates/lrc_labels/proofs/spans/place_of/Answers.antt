use Rattle.std.proofs.Common.{◌≡◌, ℕ, Bool, true, false, rules}
use Rattle.std.specs.Prelude.{nat_lt, slice_index_or}
use Rattle.std.specs.List.Sorted.{IsPartitionPoint}
use Rattle.std.proofs.lemmas.Bool.{ltb-true, ltb-false}
use Rattle.std.proofs.lemmas.List.Sorted.{IsPartitionedBy-ltb, IsPartitionPoint-from_clause}
use Rattle.lrc_labels.specs.declared.spans.Span.{Span}
use Rattle.lrc_labels.proofs.Reached.{ends_rise}
use Rattle.lrc_labels.proofs.spans.place_of.Goals as goal
use Rattle.lrc_labels.proofs.spans.place_of.Goals.{After-partition_point}

abbrev ends_below : ℕ → Span → Bool
ends_below n span = nat_lt span.last n

point : (c : After-partition_point) → IsPartitionPoint (λ span. ends_below c.args.number span ≡ true)
    (λ span. ends_below c.args.number span ≡ false) c.args.spans.now c.partition_point.result
point c =
    IsPartitionPoint-from_clause (ends_below c.args.number) c.args.spans.now c.partition_point.result c.partition_point.ensures.partitioned
    (IsPartitionedBy-ltb (λ (span : Span). span.last) c.args.spans.now c.args.number (ends_rise 0 c.args.spans.now c.requires))
    (λ a r f' h. (search rules, search rules))

pub returns-clause-before : goal.returns-clause-before
returns-clause-before c k d le lt = ltb-true (slice_index_or c.args.spans.now k d).last c.args.number ((point c).0 k d le lt)

pub returns-clause-from : goal.returns-clause-from
returns-clause-from c k d le lt = ltb-false (slice_index_or c.args.spans.now k d).last c.args.number ((point c).1 k d le lt)
