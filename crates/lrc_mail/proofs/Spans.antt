-- Sets of numbers as spans: where a number stands among them.
use Rattle.std.proofs.Common.{⊎_elim, inl, inr, ◌≡◌, ℕ, zero, suc, ◌+◌, ◌-◌, ◌<◌, ◌≤◌, Bool, true, false, List, [], ◌∷◌, length, length-append, drop, get_or, refl, sym, subst, ap, ◌∙◌, arith}
use Rattle.std.proofs.lemmas.List.FromFn.{length-range_with_len}
use Rattle.std.proofs.lemmas.List.{drop_more}
use Rattle.std.specs.Prelude.{slice_index_or, ◌==◌, ◌||◌, nat_le, ◌⊎◌}
use Rattle.std.specs.List.{All, AllWithin, list_any, range_with_len}
use Rattle.std.specs.List.Sorted.{IsNonDecreasingBy}
use Rattle.std.proofs.lemmas.Bool.{ne_eqb, eq-eqb, le-leb, lt-leb, leb-false, cases_eq, cases_lt}
use Rattle.std.proofs.lemmas.List.Elements.{All-cons}
use Rattle.std.proofs.lemmas.List.Folds.{list_any-append}
use Rattle.lrc_mail.specs.declared.numbers.Span.{Span}
use Rattle.lrc_mail.specs.Spans.{numbers_in, spanned, AreSpansFrom}

-- all spans begin at the least or above, and end there
pub all_from : (least : ℕ) (spans : List Span) → AreSpansFrom least spans → All (λ span. least ≤ span.first) spans
all_from least [] are = λ k d lt. absurd (omega (arith, lt))
all_from least (span ∷ spans) are =
    All-cons (λ (s : Span). least ≤ s.first) span spans are.0
    (λ k d lt. let rest : span.last + 2 ≤ (slice_index_or spans k d).first = all_from (span.last + 2) spans are.2 k d lt in omega (arith, are.0, are.1, rest))

pub all_some : (least : ℕ) (spans : List Span) → AreSpansFrom least spans → All (λ span. span.first ≤ span.last) spans
all_some least [] are = λ k d lt. absurd (omega (arith, lt))
all_some least (span ∷ spans) are = All-cons (λ (s : Span). s.first ≤ s.last) span spans are.1 (all_some (span.last + 2) spans are.2)

-- the ends of spans rise
pub ends_rise : (least : ℕ) (spans : List Span) → AreSpansFrom least spans → IsNonDecreasingBy (λ span. span.last) spans
ends_rise least [] are i j d le within = absurd (omega (arith, within))
ends_rise least (span ∷ spans) are zero zero d le within = omega arith
ends_rise least (span ∷ spans) are zero (suc j) d le within =
    let from : span.last + 2 ≤ (slice_index_or spans j d).first = all_from (span.last + 2) spans are.2 j d (omega (arith, within)) in
    let some : (slice_index_or spans j d).first ≤ (slice_index_or spans j d).last = all_some (span.last + 2) spans are.2 j d (omega (arith, within)) in
    omega (arith, from, some)
ends_rise least (span ∷ spans) are (suc i) zero d le within = absurd (omega (arith, le))
ends_rise least (span ∷ spans) are (suc i) (suc j) d le within = ends_rise (span.last + 2) spans are.2 i j d (omega (arith, le)) (omega (arith, within))

-- ---- a number among others

-- a number that is none of a range
pub none-below : (n a k : ℕ) → n < a → list_any (λ m. m == n) (range_with_len a k) ≡ false
none-below n a zero lt = refl
none-below n a (suc k) lt =
    ap (λ b. b || list_any (λ m. m == n) (range_with_len (a + 1) k)) (ne_eqb a n (omega (arith, lt))) ∙ none-below n (a + 1) k (omega (arith, lt))

pub none-above : (n a k : ℕ) → a + k ≤ n → list_any (λ m. m == n) (range_with_len a k) ≡ false
none-above n a zero le = refl
none-above n a (suc k) le =
    ap (λ b. b || list_any (λ m. m == n) (range_with_len (a + 1) k)) (ne_eqb a n (omega (arith, le))) ∙ none-above n (a + 1) k (omega (arith, le))

pub any-within : (n a k : ℕ) → a ≤ n → n < a + k → list_any (λ m. m == n) (range_with_len a k) ≡ true
any-within n a zero le lt = absurd (omega (arith, le, lt))
any-within n a (suc k) le lt = ⊎_elim
    (λ e. ap (λ b. b || list_any (λ m. m == n) (range_with_len (a + 1) k)) (eq-eqb a n e))
    (λ other. ap (λ b. b || list_any (λ m. m == n) (range_with_len (a + 1) k)) (ne_eqb a n other)
    ∙ any-within n (a + 1) k (omega (arith, le, other)) (omega (arith, lt)))
    (cases_eq a n)

-- a number below all spans
pub none-before : (n : ℕ) (spans : List Span) → All (λ span. n < span.first) spans → list_any (λ m. m == n) (spanned spans) ≡ false
none-before n [] above = refl
none-before n (span ∷ spans) above =
    list_any-append (λ m. m == n) (numbers_in span) (spanned spans)
    ∙ ap (λ b. b || list_any (λ m. m == n) (spanned spans)) (none-below n span.first (span.last + 1 - span.first) (above zero span (omega arith)))
    ∙ none-before n spans (λ k d lt. above (suc k) d (omega (arith, lt)))

-- the first span ends below the others
above_first : (n least : ℕ) (span : Span) (spans : List Span) → AreSpansFrom least (span ∷ spans) → n ≤ span.last → All (λ other. n < other.first) spans
above_first n least span spans are le k d within =
    let from : span.last + 2 ≤ (slice_index_or spans k d).first = all_from (span.last + 2) spans are.2 k d within in
    omega (arith, le, from)

cases_le : (a n : ℕ) → (a ≤ n) ⊎ (n < a)
cases_le a n = ⊎_elim inr inl (cases_lt n a)

-- ---- where a number is looked for

-- whether the span at a place, if there is one, begins at the number or below
abbrev pub begins_by : ℕ → List Span → ℕ → Bool
begins_by n [] i = false
begins_by n (span ∷ spans) zero = nat_le span.first n
begins_by n (span ∷ spans) (suc i) = begins_by n spans i

pub begins_by-at : (n : ℕ) (spans : List Span) (i : ℕ) (d : Span) → i < length spans → begins_by n spans i ≡ nat_le (slice_index_or spans i d).first n
begins_by-at n [] i d lt = absurd (omega (arith, lt))
begins_by-at n (span ∷ spans) zero d lt = refl
begins_by-at n (span ∷ spans) (suc i) d lt = begins_by-at n spans i d (omega (arith, lt))

pub begins_by-past : (n : ℕ) (spans : List Span) (i : ℕ) → length spans ≤ i → begins_by n spans i ≡ false
begins_by-past n [] i le = refl
begins_by-past n (span ∷ spans) zero le = absurd (omega (arith, le))
begins_by-past n (span ∷ spans) (suc i) le = begins_by-past n spans i (omega (arith, le))

-- a number is among spans where the first span that doesn't end below it begins at it or below
pub found_at : (n least : ℕ) (spans : List Span) (i : ℕ) → AreSpansFrom least spans → AllWithin (λ span. span.last < n) spans 0 i
    → AllWithin (λ span. n ≤ span.last) spans i (length spans) → begins_by n spans i ≡ list_any (λ m. m == n) (spanned spans)
found_at n least [] i are before from = refl
found_at n least (span ∷ spans) zero are before from =
    let le : n ≤ span.last = from zero span (omega arith) (omega arith) in
    ⊎_elim
    (λ begins.
    le-leb span.first n begins
    ∙ sym (
    list_any-append (λ m. m == n) (numbers_in span) (spanned spans)
    ∙ ap (λ b. b || list_any (λ m. m == n) (spanned spans)) (any-within n span.first (span.last + 1 - span.first) begins (omega (arith, le, begins)))
    ))
    (λ begins.
    lt-leb span.first n begins
    ∙ sym (none-before n (span ∷ spans) (All-cons (λ (other : Span). n < other.first) span spans begins (above_first n least span spans are le))))
    (cases_le span.first n)
found_at n least (span ∷ spans) (suc i) are before from =
    let below : span.last < n = before zero span (omega arith) (omega arith) in
    found_at n (span.last + 2) spans i are.2 (λ k d le lt. before (suc k) d (omega arith) (omega (arith, lt)))
    (λ k d le lt. from (suc k) d (omega (arith, le)) (omega (arith, lt)))
    ∙ sym (
    list_any-append (λ m. m == n) (numbers_in span) (spanned spans)
    ∙ ap (λ b. b || list_any (λ m. m == n) (spanned spans)) (none-above n span.first (span.last + 1 - span.first) (omega (arith, below, are.1)))
    )

-- where a number is not among spans, the first span that doesn't end below it begins above it
pub above_place : (n least : ℕ) (spans : List Span) (i : ℕ) → AreSpansFrom least spans → AllWithin (λ span. n ≤ span.last) spans i (length spans)
    → begins_by n spans i ≡ false → AllWithin (λ span. n < span.first) spans i (length spans)
above_place n least [] i are from not k d le lt = absurd (omega (arith, lt))
above_place n least (span ∷ spans) zero are from not zero d le lt = leb-false span.first n not
above_place n least (span ∷ spans) zero are from not (suc k) d le lt =
    above_first n least span spans are (from zero span (omega arith) (omega arith)) k d (omega (arith, lt))
above_place n least (span ∷ spans) (suc i) are from not zero d le lt = absurd (omega (arith, le))
above_place n least (span ∷ spans) (suc i) are from not (suc k) d le lt =
    above_place n (span.last + 2) spans i are.2 (λ k e le lt. from (suc k) e (omega (arith, le)) (omega (arith, lt))) not k d
    (omega (arith, le)) (omega (arith, lt))

-- ---- how many there are

-- one span more is counted: its numbers are no more than those below the next
pub counted_more : (m count size total i : ℕ) (spans : List Span) (d : Span) → i < length spans → count ≤ m → AreSpansFrom m (drop i spans)
    → count + length (spanned (drop i spans)) ≡ total → size ≡ (get_or spans i d).last - (get_or spans i d).first
    → (x : ℕ) × (count + (size + 1) ≤ x) × AreSpansFrom x (drop (i + 1) spans) × (count + (size + 1) + length (spanned (drop (i + 1) spans)) ≡ total)
counted_more m count size total i spans d within few are whole size_is =
    let span = get_or spans i d in
    let rest = drop (i + 1) spans in
    let next : drop i spans ≡ span ∷ rest = drop_more spans i d within in
    let (from, some, after) : AreSpansFrom m (span ∷ rest) = subst (AreSpansFrom m) next are in
    let long : length (spanned (drop i spans)) ≡ length (numbers_in span) + length (spanned rest) =
    ap (λ l. length (spanned l)) next ∙ length-append (numbers_in span) (spanned rest) in
    let here : length (numbers_in span) ≡ span.last + 1 - span.first = length-range_with_len span.first (span.last + 1 - span.first) in
    (span.last + 2, omega (arith, few, from, some, size_is), after, omega (arith, whole, long, here, size_is, some))
