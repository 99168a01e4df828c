use Rattle.std.proofs.Common.{◌≡◌, suc, List, add-one, sym, ap, ◌∙◌, subst}
use Rattle.std.specs.Prelude.{slice_set, slice_index_or}
use Rattle.std.specs.List.{remove}
use Rattle.std.proofs.lemmas.List.{get_or_default}
use Rattle.lrc_mail.specs.declared.numbers.Span.{Span}
use Rattle.lrc_mail.specs.Spans.{Puts}
use Rattle.lrc_mail.proofs.Puts.{ended_higher, joined}
use Rattle.lrc_mail.proofs.numbers.lengthen.Goals as goal

pub returns-then-joins : goal.returns-then-joins
returns-then-joins c =
    let n = c.args.number in
    let xs = c.args.spans.now.items in
    let i = c.args.place in
    let span = c.index.result.now in
    let next = c.remove-next.result in
    let all = c.requires.joins c.if-joins.true in
    let here : slice_index_or xs i span ≡ span = sym c.index.ensures in
    let there : slice_index_or xs (suc i) span ≡ next =
    get_or_default xs (suc i) span next all.0 ∙ ap (λ j. slice_index_or xs j next) (sym (add-one i)) ∙ sym c.remove-next.ensures.value in
    let left : remove xs (suc i) ≡ c.remove-next.new.self.items = ap (remove xs) (sym (add-one i)) ∙ sym c.remove-next.ensures.items in
    subst (λ (l : List Span). Puts n 0 xs (slice_set l i (record { first = span.first; last = next.last }))) left
    (subst (λ (t : Span). Puts n 0 xs (slice_set (remove xs (suc i)) i (record { first = span.first; last = t.last }))) there
    (subst (λ (s : Span). Puts n 0 xs (slice_set (remove xs (suc i)) i (record { first = s.first; last = (slice_index_or xs (suc i) span).last }))) here
    (joined n 0 xs i span c.requires.are c.requires.before all.0 (c.requires.ends span) (all.1 span))))

pub returns-else-joins : goal.returns-else-joins
returns-else-joins c =
    let n = c.args.number in
    let xs = c.args.spans.now.items in
    let i = c.args.place in
    let span = c.index.result.now in
    subst (λ (s : Span). Puts n 0 xs (slice_set xs i (record { first = s.first; last = n }))) (sym c.index.ensures)
    (ended_higher n 0 xs i span c.requires.are c.requires.before c.requires.place (c.requires.ends span) (c.requires.apart c.if-joins.false))
