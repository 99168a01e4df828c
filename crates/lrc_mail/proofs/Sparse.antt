-- Numbers without a gap are one span.
use Rattle.std.proofs.Common.{◌≡◌, ℕ, ◌+◌, ◌-◌, ◌≤◌, List, [], ◌∷◌, ◌++◌, length, get_or, sym, ap, ◌∙◌, arith}
use Rattle.std.specs.List.{range_with_len}
use Rattle.std.proofs.lemmas.List.{length-append, get_or_append_left, get_or-append-add}
use Rattle.std.proofs.lemmas.List.FromFn.{length-range_with_len, get_or-range_with_len}
use Rattle.lrc_mail.specs.declared.numbers.Span.{Span}
use Rattle.lrc_mail.specs.Spans.{spanned, AreSpans}

pub one_span : (spans : List Span) (first count : ℕ) → AreSpans spans → spanned spans ≡ range_with_len first count → length spans ≤ 1
one_span [] first count are e = omega arith
one_span (span ∷ []) first count are e = omega arith
one_span (span ∷ next ∷ spans) first count are e =
    let some : span.first ≤ span.last = are.1 in
    let apart : span.last + 2 ≤ next.first = are.2.0 in
    let more : next.first ≤ next.last = are.2.1 in
    let a = span.last + 1 - span.first in
    let b = next.last + 1 - next.first in
    let A = range_with_len span.first a in
    let B = range_with_len next.first b in
    let C = spanned spans in
    let long_a : length A ≡ a = length-range_with_len span.first a in
    let long_b : length B ≡ b = length-range_with_len next.first b in
    let counted : length A + (length B + length C) ≡ count =
    ap (λ n. length A + n) (sym (length-append B C)) ∙ sym (length-append A (B ++ C)) ∙ ap length e ∙ length-range_with_len first count in
    let begin : span.first + 0 ≡ first + 0 =
    sym (get_or-range_with_len span.first a 0 0 (omega (arith, some)))
    ∙ sym (get_or_append_left A (B ++ C) 0 0 (omega (arith, long_a, some)))
    ∙ ap (λ l. get_or l 0 0) e ∙ get_or-range_with_len first count 0 0 (omega (arith, counted, long_a, some)) in
    let there : next.first + 0 ≡ first + (length A + 0) =
    sym (get_or-range_with_len next.first b 0 0 (omega (arith, more)))
    ∙ sym (get_or_append_left B C 0 0 (omega (arith, long_b, more)))
    ∙ sym (get_or-append-add A (B ++ C) 0 0)
    ∙ ap (λ l. get_or l (length A + 0) 0) e ∙ get_or-range_with_len first count (length A + 0) 0 (omega (arith, counted, long_b, more)) in
    absurd (omega (arith, begin, there, long_a, some, apart))
