use Rattle.std.proofs.Common.{◌≡◌, suc, ◌+◌, ◌-◌, ◌<◌, ◌≤◌, length, sym, ap, arith, subst}
use Rattle.std.specs.Prelude.{slice_index_or}
use Rattle.std.specs.List.{AllWithin}
use Rattle.std.proofs.lemmas.Bool.{eqb-false}
use Rattle.std.proofs.lemmas.List.{get_or_default}
use Rattle.lrc_mail.specs.declared.numbers.Span.{Span}
use Rattle.lrc_mail.proofs.Puts.{all_clear}
use Rattle.lrc_mail.proofs.numbers.ended_before.Goals as goal

pub returns-then-place-gt0-clause-no : goal.returns-then-place-gt0-clause-no
returns-then-place-gt0-clause-no c far =
    let n = c.args.number in
    let xs = c.args.spans.now in
    let i = c.args.place in
    let none : Span = record { first = 0; last = 0 } in
    let apart = eqb-false (n - (slice_index_or xs (i - 1) none).last) 1 far in
    let more : suc (i - 1) ≡ i = omega (arith, c.if-place-gt0.true) in
    let bound : i ≤ length xs = c.requires.bound in
    let within : i - 1 < length xs = omega (arith, c.if-place-gt0.true, bound) in
    let clear : (d : Span) → (slice_index_or xs (i - 1) d).last + 1 < n = λ d.
    let below : (slice_index_or xs (i - 1) d).last < n = c.requires.before (i - 1) d (omega arith) (omega (arith, c.if-place-gt0.true)) in
    let same : (slice_index_or xs (i - 1) none).last ≡ (slice_index_or xs (i - 1) d).last =
    ap (λ (s : Span). s.last) (get_or_default xs (i - 1) none d within) in
    omega (arith, below, same, apart) in
    subst (λ j. AllWithin (λ (span : Span). span.last + 1 < n) xs 0 j) more
    (all_clear n 0 xs (i - 1) c.requires.are within (subst (λ j. AllWithin (λ (span : Span). span.last < n) xs 0 j) (sym more) c.requires.before) clear)
