-- Spans: where one is looked for, and what one more does.
use Rattle.std.proofs.Common.{⊎_elim, inl, inr, ◌≡◌, ℕ, zero, suc, ◌+◌, ◌<◌, ◌≤◌, Bool, true, false, List, [], ◌∷◌, length, refl, sym, ap, ◌∙◌, arith}
use Rattle.std.specs.Prelude.{slice_index_or, ◌||◌, ◌&&◌, nat_le, ◌⊎◌}
use Rattle.std.specs.List.{All, AllWithin, insert, list_any}
use Rattle.std.specs.List.Sorted.{IsNonDecreasingBy}
use Rattle.std.proofs.lemmas.Bool.{le-leb, lt-leb, leb-false, cases_lt}
use Rattle.std.proofs.lemmas.List.Elements.{All-cons}
use Rattle.lrc_labels.specs.declared.spans.Span.{Span}
use Rattle.lrc_labels.specs.Spans.{AreSpansFrom, reaches}

-- all spans begin at the least or above
pub all_from : (least : ℕ) (spans : List Span) → AreSpansFrom least spans → All (λ span. least ≤ span.first) spans
all_from least [] are = λ k d lt. absurd (omega (arith, lt))
all_from least (span ∷ spans) are =
    All-cons (λ (s : Span). least ≤ s.first) span spans are.0
    (λ k d lt. let rest : span.last + 1 ≤ (slice_index_or spans k d).first = all_from (span.last + 1) spans are.2 k d lt in omega (arith, are.0, are.1, rest))

all_some : (least : ℕ) (spans : List Span) → AreSpansFrom least spans → All (λ span. span.first ≤ span.last) spans
all_some least [] are = λ k d lt. absurd (omega (arith, lt))
all_some least (span ∷ spans) are = All-cons (λ (s : Span). s.first ≤ s.last) span spans are.1 (all_some (span.last + 1) spans are.2)

-- the ends of spans rise
pub ends_rise : (least : ℕ) (spans : List Span) → AreSpansFrom least spans → IsNonDecreasingBy (λ span. span.last) spans
ends_rise least [] are i j d le within = absurd (omega (arith, within))
ends_rise least (span ∷ spans) are zero zero d le within = omega arith
ends_rise least (span ∷ spans) are zero (suc j) d le within =
    let from : span.last + 1 ≤ (slice_index_or spans j d).first = all_from (span.last + 1) spans are.2 j d (omega (arith, within)) in
    let some : (slice_index_or spans j d).first ≤ (slice_index_or spans j d).last = all_some (span.last + 1) spans are.2 j d (omega (arith, within)) in
    omega (arith, from, some)
ends_rise least (span ∷ spans) are (suc i) zero d le within = absurd (omega (arith, le))
ends_rise least (span ∷ spans) are (suc i) (suc j) d le within = ends_rise (span.last + 1) spans are.2 i j d (omega (arith, le)) (omega (arith, within))

-- the first span ends below the others
above_first : (n least : ℕ) (span : Span) (spans : List Span) → AreSpansFrom least (span ∷ spans) → n ≤ span.last → All (λ other. n < other.first) spans
above_first n least span spans are le k d within =
    let from : span.last + 1 ≤ (slice_index_or spans k d).first = all_from (span.last + 1) spans are.2 k d within in
    omega (arith, le, from)

cases_le : (a n : ℕ) → (a ≤ n) ⊎ (n < a)
cases_le a n = ⊎_elim inr inl (cases_lt n a)

and_false : (b : Bool) → (b && false) ≡ false
and_false true = refl
and_false false = refl

or_false : (b : Bool) → (b || false) ≡ b
or_false true = refl
or_false false = refl

-- a span above the last number, and one below the first
beyond : (first last : ℕ) (span : Span) → last < span.first → reaches first last span ≡ false
beyond first last span above = ap (λ b. b && nat_le first span.last) (lt-leb span.first last above)

behind : (first last : ℕ) (span : Span) → span.last < first → reaches first last span ≡ false
behind first last span below = ap (λ b. nat_le span.first last && b) (lt-leb first span.last below) ∙ and_false (nat_le span.first last)

-- spans above the last number
none_beyond : (first last : ℕ) (spans : List Span) → All (λ span. last < span.first) spans → list_any (reaches first last) spans ≡ false
none_beyond first last [] above = refl
none_beyond first last (span ∷ spans) above =
    ap (λ b. b || list_any (reaches first last) spans) (beyond first last span (above zero span (omega arith)))
    ∙ none_beyond first last spans (λ k d lt. above (suc k) d (omega (arith, lt)))

-- ---- where a span is looked for

-- whether the span at a place, if there is one, begins at the number or below
abbrev pub begins_by : ℕ → List Span → ℕ → Bool
begins_by n [] i = false
begins_by n (span ∷ spans) zero = nat_le span.first n
begins_by n (span ∷ spans) (suc i) = begins_by n spans i

pub begins_by-at : (n : ℕ) (spans : List Span) (i : ℕ) (d : Span) → i < length spans → begins_by n spans i ≡ nat_le (slice_index_or spans i d).first n
begins_by-at n [] i d lt = absurd (omega (arith, lt))
begins_by-at n (span ∷ spans) zero d lt = refl
begins_by-at n (span ∷ spans) (suc i) d lt = begins_by-at n spans i d (omega (arith, lt))

pub begins_by-past : (n : ℕ) (spans : List Span) (i : ℕ) → length spans ≤ i → begins_by n spans i ≡ false
begins_by-past n [] i le = refl
begins_by-past n (span ∷ spans) zero le = absurd (omega (arith, le))
begins_by-past n (span ∷ spans) (suc i) le = begins_by-past n spans i (omega (arith, le))

-- a span has one of the numbers where the first that does not end below them begins at the last of them or below
pub found_at : (first last least : ℕ) (spans : List Span) (i : ℕ) → AreSpansFrom least spans → AllWithin (λ span. span.last < first) spans 0 i
    → AllWithin (λ span. first ≤ span.last) spans i (length spans) → begins_by last spans i ≡ list_any (reaches first last) spans
found_at first last least [] i are before from = refl
found_at first last least (span ∷ spans) zero are before from =
    let le : first ≤ span.last = from zero span (omega arith) (omega arith) in
    ⊎_elim
    (λ begins.
    le-leb span.first last begins
    ∙ sym (
    ap (λ b. (b && nat_le first span.last) || list_any (reaches first last) spans) (le-leb span.first last begins)
    ∙ ap (λ b. b || list_any (reaches first last) spans) (le-leb first span.last le)
    ))
    (λ begins.
    lt-leb span.first last begins
    ∙ sym (none_beyond first last (span ∷ spans)
    (All-cons (λ (other : Span). last < other.first) span spans begins
    (above_first last least span spans are (let some : span.first ≤ span.last = are.1 in omega (arith, begins, some))))))
    (cases_le span.first last)
found_at first last least (span ∷ spans) (suc i) are before from =
    let below : span.last < first = before zero span (omega arith) (omega arith) in
    found_at first last (span.last + 1) spans i are.2 (λ k d le lt. before (suc k) d (omega arith) (omega (arith, lt)))
    (λ k d le lt. from (suc k) d (omega (arith, le)) (omega (arith, lt)))
    ∙ sym (ap (λ b. b || list_any (reaches first last) spans) (behind first last span below))

-- ---- one span more

swapped : (a b c : Bool) → (a || (b || c)) ≡ (b || (a || c))
swapped true true c = refl
swapped true false c = refl
swapped false b c = refl

pub any_insert : (test : Span → Bool) (spans : List Span) (i : ℕ) (more : Span) → list_any test (insert spans i more) ≡ (test more || list_any test spans)
any_insert test [] zero more = refl
any_insert test [] (suc i) more = refl
any_insert test (span ∷ spans) zero more = refl
any_insert test (span ∷ spans) (suc i) more =
    ap (λ b. test span || b) (any_insert test spans i more) ∙ swapped (test span) (test more) (list_any test spans)

-- a span put before the first that begins above it, behind those that end below it
pub put_among : (least : ℕ) (spans : List Span) (i : ℕ) (more : Span) → AreSpansFrom least spans → least ≤ more.first → more.first ≤ more.last
    → AllWithin (λ span. span.last < more.first) spans 0 i → begins_by more.last spans i ≡ false → i ≤ length spans
    → AreSpansFrom least (insert spans i more)
put_among least [] zero more are from some before not within = (from, some, tt)
put_among least [] (suc i) more are from some before not within = absurd (omega (arith, within))
put_among least (span ∷ spans) zero more are from some before not within =
    (from, some, ((let above : more.last < span.first = leb-false span.first more.last not in omega (arith, above)), are.1, are.2))
put_among least (span ∷ spans) (suc i) more are from some before not within =
    let below : span.last < more.first = before zero span (omega arith) (omega arith) in (
      are.0,
      are.1,
      put_among (span.last + 1) spans i more are.2 (omega (arith, below)) some
          (λ k d le lt. before (suc k) d (omega arith) (omega (arith, lt))) not (omega (arith, within)),
    )
