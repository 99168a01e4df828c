-- Sets of numbers as spans.
use Rattle.std.specs.Prelude.{◌≡◌, ℕ, ◌+◌, ◌-◌, ◌<◌, ◌≤◌, List, [], ◌∷◌, length, flat_map, nat_lt, slice_index_or}
use Rattle.std.specs.List.{range_with_len}
use Rattle.lrc_store.specs.Order.{placed}
use Rattle.lrc_mail.specs.declared.numbers.Span.{Span}

-- the numbers of a span, ascending
abbrev pub numbers_in : Span → List ℕ
numbers_in span = range_with_len span.first (span.last + 1 - span.first)

-- the numbers of spans
abbrev pub spanned : List Span → List ℕ
spanned spans = flat_map numbers_in spans

-- the spans begin at `least` or above; each has a number; and between each and the next there is a number that is in
-- neither
abbrev pub AreSpansFrom : ℕ → List Span → Type 0
AreSpansFrom least [] = Unit {0}
AreSpansFrom least (span ∷ spans) = (least ≤ span.first) × (span.first ≤ span.last) × AreSpansFrom (span.last + 2) spans

abbrev pub AreSpans : List Span → Type 0
AreSpans spans = AreSpansFrom 0 spans

-- ---- what one number more does

-- the new spans are such spans, with the number in its place among those of the old ones
pub record Puts (n least : ℕ) (old new : List Span) : Type 0 where
  pub are : AreSpansFrom least new
  pub numbers : spanned new ≡ placed nat_lt n (spanned old)

-- the span at a place, if there is one, begins above the number, with a gap
abbrev pub IsClear : ℕ → List Span → ℕ → Type 0
IsClear n spans place = (d : Span) → place < length spans → n + 1 < (slice_index_or spans place d).first
