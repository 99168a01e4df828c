-- A number put among spans.
use Rattle.std.proofs.Common.{◌≡◌, ℕ, zero, suc, ◌+◌, ◌-◌, ◌<◌, ◌≤◌, List, [], ◌∷◌, ◌++◌, length, refl, sym, ap, ◌∙◌, arith, append_assoc}
use Rattle.std.specs.Prelude.{slice_index_or, slice_set, nat_lt, cond}
use Rattle.std.specs.List.{AllWithin, insert, remove, range_with_len}
use Rattle.std.proofs.lemmas.Bool.{lt-ltb, le-ltb}
use Rattle.lrc_store.specs.Order.{placed}
use Rattle.lrc_protocol.proofs.Numbers.{ranges-append}
use Rattle.lrc_mail.specs.declared.numbers.Span.{Span}
use Rattle.lrc_mail.proofs.Spans.{all_from, all_some}
use Rattle.lrc_mail.specs.Spans.{numbers_in, spanned, AreSpansFrom, Puts, IsClear}

-- ---- a number placed in a list

-- behind a range that ends below it
placed-behind : (n a k : ℕ) (rest : List ℕ) → a + k ≤ n → placed nat_lt n (range_with_len a k ++ rest) ≡ range_with_len a k ++ placed nat_lt n rest
placed-behind n a zero rest le = refl
placed-behind n a (suc k) rest le =
    ap (λ b. cond b (n ∷ a ∷ (range_with_len (a + 1) k ++ rest)) (a ∷ placed nat_lt n (range_with_len (a + 1) k ++ rest))) (le-ltb n a (omega (arith, le)))
    ∙ ap (λ l. a ∷ l) (placed-behind n (a + 1) k rest (omega (arith, le)))

-- before spans that begin above it
placed-before : (n : ℕ) (spans : List Span) → AreSpansFrom (n + 1) spans → placed nat_lt n (spanned spans) ≡ n ∷ spanned spans
placed-before n [] are = refl
placed-before n (span ∷ spans) are = by_range (span.last + 1 - span.first) refl
  where
    by_range : (k : ℕ) → span.last + 1 - span.first ≡ k
        → placed nat_lt n (range_with_len span.first k ++ spanned spans) ≡ n ∷ (range_with_len span.first k ++ spanned spans)
    by_range zero e = absurd (omega (arith, e, are.1))
    by_range (suc k) e =
        ap (λ b. cond b (n ∷ span.first ∷ (range_with_len (span.first + 1) k ++ spanned spans))
        (span.first ∷ placed nat_lt n (range_with_len (span.first + 1) k ++ spanned spans)))
        (lt-ltb n span.first (omega (arith, are.0)))

-- ---- spans with one number more

-- behind a span that ends below it
puts-behind : (n least : ℕ) (span : Span) (old new : List Span) → least ≤ span.first → span.first ≤ span.last → span.last < n
    → Puts n (span.last + 2) old new → Puts n least (span ∷ old) (span ∷ new)
puts-behind n least span old new from some below rest = record {
  are = (from, some, rest.are);
  numbers =
      ap (λ l. numbers_in span ++ l) rest.numbers
      ∙ sym (placed-behind n span.first (span.last + 1 - span.first) (spanned old) (omega (arith, some, below)));
}

-- spans that begin higher
raised : (least more : ℕ) (spans : List Span) → AreSpansFrom least spans → ((d : Span) → 0 < length spans → more ≤ (slice_index_or spans 0 d).first)
    → AreSpansFrom more spans
raised least more [] are up = tt
raised least more (span ∷ spans) are up = (up span (omega arith), are.1, are.2)

lowered : (least less : ℕ) (spans : List Span) → AreSpansFrom least spans → less ≤ least → AreSpansFrom less spans
lowered least less [] are le = tt
lowered least less (span ∷ spans) are le = let from : least ≤ span.first = are.0 in (omega (arith, from, le), are.1, are.2)

-- one number alone
alone : (n : ℕ) → range_with_len n (n + 1 - n) ≡ n ∷ []
alone n = ap (range_with_len n) (let e : n + 1 - n ≡ 1 = omega arith in e)

-- a range with the number behind it
ranged : (a b : ℕ) → a ≤ b → range_with_len a (b + 1 - a) ++ (b + 1) ∷ [] ≡ range_with_len a (b + 1 + 1 - a)
ranged a b le =
    let counted : a + (b + 1 - a) ≡ b + 1 = omega (arith, le) in
    ap (λ m. range_with_len a (b + 1 - a) ++ m ∷ []) (sym counted)
    ∙ ranges-append a (b + 1 - a) 1 (b + 1 + 1 - a) (omega (arith, le))

-- ---- the four ways

-- a span of its own, before spans that begin above it
puts-alone : (n least : ℕ) (spans : List Span) → AreSpansFrom (n + 2) spans → least ≤ n → Puts n least spans (record { first = n; last = n } ∷ spans)
puts-alone n least spans are le = record {
  are = (le, omega arith, are);
  numbers = ap (λ l. l ++ spanned spans) (alone n) ∙ sym (placed-before n spans (lowered (n + 2) (n + 1) spans are (omega arith)));
}

-- the first span from one number lower on
puts-first : (n least : ℕ) (span : Span) (spans : List Span) → AreSpansFrom (n + 1) (span ∷ spans) → span.first ≡ n + 1 → least ≤ n
    → Puts n least (span ∷ spans) (record { first = n; last = span.last } ∷ spans)
puts-first n least span spans are from le = record {
  are = (le, omega (arith, are.1, from), are.2);
  numbers =
      let first : range_with_len n (span.last + 1 - n) ≡ n ∷ range_with_len span.first (span.last + 1 - span.first) =
      ap (range_with_len n) (let e : span.last + 1 - n ≡ suc (span.last + 1 - span.first) = omega (arith, are.1, from) in e)
      ∙ ap (λ a. n ∷ range_with_len a (span.last + 1 - span.first)) (sym from) in
      ap (λ l. l ++ spanned spans) first ∙ sym (placed-before n (span ∷ spans) are);
}

-- the first span up to one number higher
puts-last : (n least : ℕ) (span : Span) (spans : List Span) → AreSpansFrom least (span ∷ spans) → span.last + 1 ≡ n
    → ((d : Span) → 0 < length spans → n + 1 < (slice_index_or spans 0 d).first) → Puts n least (span ∷ spans) (record { first = span.first; last = n } ∷ spans)
puts-last n least span spans are ends gap =
    let rest : AreSpansFrom (n + 2) spans = raised (span.last + 2) (n + 2) spans are.2 (λ d some. let above = gap d some in omega (arith, above)) in
    record {
      are = (are.0, omega (arith, are.1, ends), rest);
      numbers =
          ap (λ m. range_with_len span.first (m + 1 - span.first) ++ spanned spans) (sym ends)
          ∙ ap (λ l. l ++ spanned spans) (sym (ranged span.first span.last are.1))
          ∙ append_assoc (numbers_in span) ((span.last + 1) ∷ []) (spanned spans)
          ∙ ap (λ m. numbers_in span ++ m ∷ spanned spans) ends
          ∙ ap (λ l. numbers_in span ++ l) (sym (placed-before n spans (lowered (n + 2) (n + 1) spans rest (omega arith))))
          ∙ sym (placed-behind n span.first (span.last + 1 - span.first) (spanned spans) (omega (arith, are.1, ends)));
    }

-- two spans become one
puts-joined : (n least : ℕ) (span next : Span) (spans : List Span) → AreSpansFrom least (span ∷ next ∷ spans) → span.last + 1 ≡ n → next.first ≡ n + 1
    → Puts n least (span ∷ next ∷ spans) (record { first = span.first; last = next.last } ∷ spans)
puts-joined n least span next spans are ends from =
    let rest = are.2 in
    record {
      are = (are.0, omega (arith, are.1, rest.1, ends, from), rest.2);
      numbers =
          ap (λ l. l ++ spanned spans) (sym (both rest.1))
          ∙ append_assoc (numbers_in span) (n ∷ numbers_in next) (spanned spans)
          ∙ ap (λ l. numbers_in span ++ l) (sym (placed-before n (next ∷ spans) (omega (arith, from), rest.1, rest.2)))
          ∙ sym (placed-behind n span.first (span.last + 1 - span.first) (spanned (next ∷ spans)) (omega (arith, are.1, ends)));
    }
  where
    both : next.first ≤ next.last → numbers_in span ++ n ∷ numbers_in next ≡ range_with_len span.first (next.last + 1 - span.first)
    both some =
        let counted : span.first + (span.last + 1 - span.first) ≡ n = omega (arith, are.1, ends) in
        let more : n ∷ numbers_in next ≡ range_with_len n (next.last + 1 - n) =
        ap (λ a. n ∷ range_with_len a (next.last + 1 - next.first)) from
        ∙ ap (range_with_len n) (let e : suc (next.last + 1 - next.first) ≡ next.last + 1 - n = omega (arith, some, from) in e) in
        ap (λ l. numbers_in span ++ l) (more ∙ ap (λ a. range_with_len a (next.last + 1 - n)) (sym counted))
        ∙ ranges-append span.first (span.last + 1 - span.first) (next.last + 1 - n) (next.last + 1 - span.first) (omega (arith, are.1, ends, some, from))

-- ---- at any place

-- where the span before a place doesn't end just below a number, no span before the place does
pub all_clear : (n least : ℕ) (spans : List Span) (i : ℕ) → AreSpansFrom least spans → i < length spans → AllWithin (λ span. span.last < n) spans 0 (suc i)
    → ((d : Span) → (slice_index_or spans i d).last + 1 < n) → AllWithin (λ span. span.last + 1 < n) spans 0 (suc i)
all_clear n least [] i are within before clear k d from lt = absurd (omega (arith, within))
all_clear n least (span ∷ spans) zero are within before clear zero d from lt = clear d
all_clear n least (span ∷ spans) zero are within before clear (suc k) d from lt = absurd (omega (arith, lt))
all_clear n least (span ∷ spans) (suc i) are within before clear zero d from lt =
    let next : span.last + 2 ≤ (slice_index_or spans 0 d).first = all_from (span.last + 2) spans are.2 0 d (omega (arith, within)) in
    let some : (slice_index_or spans 0 d).first ≤ (slice_index_or spans 0 d).last = all_some (span.last + 2) spans are.2 0 d (omega (arith, within)) in
    let below : (slice_index_or spans 0 d).last < n = before 1 d (omega arith) (omega arith) in
    omega (arith, next, some, below)
all_clear n least (span ∷ spans) (suc i) are within before clear (suc k) d from lt =
    all_clear n (span.last + 2) spans i are.2 (omega (arith, within))
    (λ k e from lt. before (suc k) e (omega arith) (omega (arith, lt))) clear k d (omega arith) (omega (arith, lt))

pub inserted : (n least : ℕ) (spans : List Span) (i : ℕ) → AreSpansFrom least spans → least ≤ n → AllWithin (λ span. span.last + 1 < n) spans 0 i
    → IsClear n spans i → i ≤ length spans → Puts n least spans (insert spans i (record { first = n; last = n }))
inserted n least [] zero are le before clear within = puts-alone n least [] tt le
inserted n least [] (suc i) are le before clear within = absurd (omega (arith, within))
inserted n least (span ∷ spans) zero are le before clear within =
    puts-alone n least (span ∷ spans) (let above = clear span (omega arith) in omega (arith, above), are.1, are.2) le
inserted n least (span ∷ spans) (suc i) are le before clear within =
    let below : span.last + 1 < n = before zero span (omega arith) (omega arith) in
    puts-behind n least span spans (insert spans i (record { first = n; last = n })) are.0 are.1 (omega (arith, below))
    (inserted n (span.last + 2) spans i are.2 (omega (arith, below)) (λ k d from lt. before (suc k) d (omega arith) (omega (arith, lt)))
    (λ d lt. clear d (omega (arith, lt))) (omega (arith, within)))

pub begun_lower : (n least : ℕ) (spans : List Span) (i : ℕ) (d : Span) → AreSpansFrom least spans → least ≤ n → AllWithin (λ span. span.last + 1 < n) spans 0 i
    → i < length spans → (slice_index_or spans i d).first ≡ n + 1
    → Puts n least spans (slice_set spans i (record { first = n; last = (slice_index_or spans i d).last }))
begun_lower n least [] i d are le before within from = absurd (omega (arith, within))
begun_lower n least (span ∷ spans) zero d are le before within from = puts-first n least span spans (omega (arith, from), are.1, are.2) from le
begun_lower n least (span ∷ spans) (suc i) d are le before within from =
    let below : span.last + 1 < n = before zero span (omega arith) (omega arith) in
    puts-behind n least span spans (slice_set spans i (record { first = n; last = (slice_index_or spans i d).last })) are.0 are.1 (omega (arith, below))
    (begun_lower n (span.last + 2) spans i d are.2 (omega (arith, below)) (λ k e from lt. before (suc k) e (omega arith) (omega (arith, lt)))
    (omega (arith, within)) from)

pub ended_higher : (n least : ℕ) (spans : List Span) (i : ℕ) (d : Span) → AreSpansFrom least spans → AllWithin (λ span. span.last < n) spans 0 i
    → i < length spans → (slice_index_or spans i d).last + 1 ≡ n → IsClear n spans (suc i)
    → Puts n least spans (slice_set spans i (record { first = (slice_index_or spans i d).first; last = n }))
ended_higher n least [] i d are before within ends clear = absurd (omega (arith, within))
ended_higher n least (span ∷ spans) zero d are before within ends clear = puts-last n least span spans are ends (λ e lt. clear e (omega (arith, lt)))
ended_higher n least (span ∷ spans) (suc i) d are before within ends clear =
    puts-behind n least span spans (slice_set spans i (record { first = (slice_index_or spans i d).first; last = n })) are.0 are.1
    (before zero span (omega arith) (omega arith))
    (ended_higher n (span.last + 2) spans i d are.2 (λ k e from lt. before (suc k) e (omega arith) (omega (arith, lt)))
    (omega (arith, within)) ends (λ e lt. clear e (omega (arith, lt))))

pub joined : (n least : ℕ) (spans : List Span) (i : ℕ) (d : Span) → AreSpansFrom least spans → AllWithin (λ span. span.last < n) spans 0 i
    → suc i < length spans → (slice_index_or spans i d).last + 1 ≡ n → (slice_index_or spans (suc i) d).first ≡ n + 1
    → Puts n least spans
    (slice_set (remove spans (suc i)) i (record { first = (slice_index_or spans i d).first; last = (slice_index_or spans (suc i) d).last }))
joined n least [] i d are before within ends from = absurd (omega (arith, within))
joined n least (span ∷ []) zero d are before within ends from = absurd (omega (arith, within))
joined n least (span ∷ next ∷ spans) zero d are before within ends from = puts-joined n least span next spans are ends from
joined n least (span ∷ spans) (suc i) d are before within ends from =
    puts-behind n least span spans
    (slice_set (remove spans (suc i)) i (record { first = (slice_index_or spans i d).first; last = (slice_index_or spans (suc i) d).last })) are.0 are.1
    (before zero span (omega arith) (omega arith))
    (joined n (span.last + 2) spans i d are.2 (λ k e from lt. before (suc k) e (omega arith) (omega (arith, lt)))
    (omega (arith, within)) ends from)
