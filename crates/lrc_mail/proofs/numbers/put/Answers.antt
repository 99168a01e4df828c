use Rattle.std.proofs.Common.{◌≡◌, ◌+◌, ◌<◌, List, length, refl, sym, arith, subst}
use Rattle.std.specs.Prelude.{slice_set, slice_index_or}
use Rattle.std.specs.List.{AllWithin}
use Rattle.lrc_mail.specs.declared.numbers.Span.{Span}
use Rattle.lrc_mail.specs.Spans.{Puts, IsClear}
use Rattle.lrc_mail.proofs.Puts.{inserted, begun_lower}
use Rattle.lrc_mail.proofs.numbers.put.Goals as goal
use Rattle.lrc_mail.proofs.numbers.put.Goals.{After-spans-1, In_ok-insert}

lower : (c : After-spans-1) → Puts c.args.number 0 c.args.spans.now.items
    (slice_set c.args.spans.now.items c.args.place (record { first = c.args.number; last = c.index.result.now.last }))
lower c =
    let n = c.args.number in
    let xs = c.args.spans.now.items in
    let i = c.args.place in
    let span = c.index.result.now in
    let all =
    subst (λ (l : List Span). (i < length l) × ((d : Span) → (slice_index_or l i d).first ≡ n + 1)) c.deref.ensures.value (c.if-joins.ensures.yes refl) in
    let before = subst (λ (l : List Span). AllWithin (λ (s : Span). s.last + 1 < n) l 0 i) c.deref-2.ensures.value (c.if-ended_before.ensures.no refl) in
    subst (λ (s : Span). Puts n 0 xs (slice_set xs i (record { first = n; last = s.last }))) (sym c.index.ensures)
    (begun_lower n 0 xs i span c.requires.are (omega arith) before all.0 (all.1 span))

alone : (c : In_ok-insert) → Puts c.args.number 0 c.args.spans.now.items c.insert.new.self.items
alone c =
    let n = c.args.number in
    let xs = c.args.spans.now.items in
    let i = c.args.place in
    let before = subst (λ (l : List Span). AllWithin (λ (s : Span). s.last + 1 < n) l 0 i) c.deref-2.ensures.value (c.if-ended_before.ensures.no refl) in
    let clear = subst (λ (l : List Span). IsClear n l i) c.deref.ensures.value (c.if-joins.ensures.no refl) in
    subst (Puts n 0 xs) (sym c.in_ok-insert.ensures.items)
    (inserted n 0 xs i c.requires.are (omega arith) before clear c.requires.bound)

pub returns-then-joins-clause-are : goal.returns-then-joins-clause-are
returns-then-joins-clause-are c = (lower c).are

pub returns-then-joins-clause-numbers : goal.returns-then-joins-clause-numbers
returns-then-joins-clause-numbers c = (lower c).numbers

pub returns-in_ok-insert-clause-are : goal.returns-in_ok-insert-clause-are
returns-in_ok-insert-clause-are c = (alone c).are

pub returns-in_ok-insert-clause-numbers : goal.returns-in_ok-insert-clause-numbers
returns-in_ok-insert-clause-numbers c = (alone c).numbers
