use Rattle.std.proofs.Common.{◌≡◌, ◌<◌, length, sym, ap, ◌∙◌, subst}
use Rattle.std.specs.Prelude.{◌==◌, nat_le}
use Rattle.std.specs.List.{list_any}
use Rattle.std.proofs.lemmas.Bool.{ltb-true, ltb-false}
use Rattle.lrc_mail.specs.declared.numbers.Span.{Span}
use Rattle.lrc_mail.specs.Spans.{spanned, AreSpans}
use Rattle.lrc_mail.proofs.Spans.{begins_by, found_at, begins_by-at, begins_by-past}
use Rattle.lrc_mail.proofs.numbers.Numbers.contains.Goals as goal
use Rattle.lrc_mail.proofs.numbers.Numbers.contains.Goals.{After-get}

found : (c : After-get) → begins_by c.args.number c.as_slice-spans.result.now c.place_of.result ≡ list_any (λ n. n == c.args.number) c.args.self.now
found c =
    found_at c.args.number 0 c.as_slice-spans.result.now c.place_of.result
    (subst AreSpans (sym c.as_slice-spans.ensures.value) c.self.invariant) c.place_of.ensures.before c.place_of.ensures.from
    ∙ ap (λ l. list_any (λ n. n == c.args.number) (spanned l)) c.as_slice-spans.ensures.value
    ∙ ap (λ l. list_any (λ n. n == c.args.number) l) c.self.view_is

pub returns-in-Some : goal.returns-in-Some
returns-in-Some c =
    let spans = c.as_slice-spans.result.now in
    let within : c.place_of.result < length spans = ltb-true c.place_of.result (length spans) (sym c.in-Some.ensures.lookup.0) in
    ap (λ (s : Span). nat_le s.first c.args.number) c.in-Some.ensures.lookup.1
    ∙ sym (begins_by-at c.args.number spans c.place_of.result c.in-Some.span.now within)
    ∙ found (goal.at.returns-in-Some c).After-get

pub returns-in-None : goal.returns-in-None
returns-in-None c =
    let spans = c.as_slice-spans.result.now in
    sym (begins_by-past c.args.number spans c.place_of.result (ltb-false c.place_of.result (length spans) (sym c.in-None.ensures.lookup.0)))
    ∙ found (goal.at.returns-in-None c).After-get
