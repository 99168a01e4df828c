use Rattle.std.proofs.Common.{◌≡◌, ◌<◌, length, sym, ap, ◌∙◌}
use Rattle.std.specs.Prelude.{nat_le}
use Rattle.std.specs.List.{list_any}
use Rattle.std.proofs.lemmas.Bool.{ltb-true, ltb-false}
use Rattle.lrc_labels.specs.declared.spans.Span.{Span}
use Rattle.lrc_labels.specs.Spans.{reaches}
use Rattle.lrc_labels.proofs.Reached.{begins_by, found_at, begins_by-at, begins_by-past}
use Rattle.lrc_labels.proofs.spans.is_reached.Goals as goal
use Rattle.lrc_labels.proofs.spans.is_reached.Goals.{After-get}

found : (c : After-get) → begins_by c.args.last c.args.spans.now c.place_of.result ≡ list_any (reaches c.args.first c.args.last) c.args.spans.now
found c = found_at c.args.first c.args.last 0 c.args.spans.now c.place_of.result c.requires c.place_of.ensures.before c.place_of.ensures.from

pub returns-in-Some : goal.returns-in-Some
returns-in-Some c =
    let spans = c.args.spans.now in
    let within : c.place_of.result < length spans = ltb-true c.place_of.result (length spans) (sym c.in-Some.ensures.lookup.0) in
    ap (λ (s : Span). nat_le s.first c.args.last) c.in-Some.ensures.lookup.1
    ∙ sym (begins_by-at c.args.last spans c.place_of.result c.in-Some.span.now within)
    ∙ found (goal.at.returns-in-Some c).After-get

pub returns-in-None : goal.returns-in-None
returns-in-None c =
    let spans = c.args.spans.now in
    sym (begins_by-past c.args.last spans c.place_of.result (ltb-false c.place_of.result (length spans) (sym c.in-None.ensures.lookup.0)))
    ∙ found (goal.at.returns-in-None c).After-get
