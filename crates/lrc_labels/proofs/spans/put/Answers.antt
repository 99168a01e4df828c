use Rattle.std.proofs.Common.{◌≡◌, ◌<◌, ◌≤◌, List, length, false, arith, sym, ap, ◌∙◌, subst}
use Rattle.std.specs.List.{AllWithin, insert, list_any}
use Rattle.lrc_labels.specs.declared.spans.Span.{Span}
use Rattle.lrc_labels.specs.Spans.{AreSpansFrom, reaches}
use Rattle.lrc_labels.proofs.Reached.{any_insert, found_at, put_among}
use Rattle.lrc_labels.proofs.spans.put.Goals as goal

pub returns-clause-are : goal.returns-clause-are
returns-clause-are c =
    let spans = c.args.spans.now.items in
    let span = c.args.span in
    let i = c.place_of-place.result in
    let same = c.deref.ensures.value in
    let before = subst (λ (l : List Span). AllWithin (λ (s : Span). s.last < span.first) l 0 i) same c.place_of-place.ensures.before in
    let from = subst (λ (l : List Span). AllWithin (λ (s : Span). span.first ≤ s.last) l i (length l)) same c.place_of-place.ensures.from in
    let within = subst (λ (l : List Span). i ≤ length l) same c.place_of-place.ensures.bound in
    subst (AreSpansFrom 0) (sym c.in_ok-insert.ensures.items)
    (put_among 0 spans i span c.requires.are (omega arith) c.requires.ends before
    (found_at span.first span.last 0 spans i c.requires.are before from ∙ c.requires.free) within)

pub returns-clause-more : goal.returns-clause-more
returns-clause-more c = λ test.
    ap (list_any test) c.in_ok-insert.ensures.items ∙ any_insert test c.args.spans.now.items c.place_of-place.result c.args.span
