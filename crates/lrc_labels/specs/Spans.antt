-- Words, or locks, as spans.
use Rattle.std.specs.Prelude.{ℕ, ◌+◌, ◌≤◌, ◌&&◌, Bool, List, [], ◌∷◌, nat_le}
use Rattle.lrc_labels.specs.declared.spans.Span.{Span}

-- the spans begin at `least` or above; none ends before its first number, and each begins above the one before it
abbrev pub AreSpansFrom : ℕ → List Span → Type 0
AreSpansFrom least [] = Unit {0}
AreSpansFrom least (span ∷ spans) = (least ≤ span.first) × (span.first ≤ span.last) × AreSpansFrom (span.last + 1) spans

-- whether a span has a number from a first to a last
abbrev pub reaches : (first last : ℕ) → Span → Bool
reaches first last span = nat_le span.first last && nat_le first span.last
