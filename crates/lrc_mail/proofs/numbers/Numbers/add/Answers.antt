use Rattle.std.proofs.Common.{◌<◌, ◌≤◌, List, length, ap, ◌∙◌, subst}
use Rattle.std.specs.Prelude.{◌==◌}
use Rattle.std.specs.List.{AllWithin, list_any}
use Rattle.lrc_mail.specs.declared.numbers.Span.{Span}
use Rattle.lrc_mail.proofs.Spans.{found_at, above_place}
use Rattle.lrc_mail.proofs.numbers.Numbers.add.Goals as goal

pub put-requires-clause-from : goal.put-requires-clause-from
put-requires-clause-from c =
    let n = c.args.number in
    let xs = c.self.inside.spans.items in
    let i = c.place_of-place.result in
    let same = c.deref.ensures.value in
    let before = subst (λ (l : List Span). AllWithin (λ (span : Span). span.last < n) l 0 i) same c.place_of-place.ensures.before in
    let from = subst (λ (l : List Span). AllWithin (λ (span : Span). n ≤ span.last) l i (length l)) same c.place_of-place.ensures.from in
    above_place n 0 xs i c.self.invariant from
    (found_at n 0 xs i c.self.invariant before from ∙ ap (λ l. list_any (λ m. m == n) l) c.self.view_is ∙ c.requires)
