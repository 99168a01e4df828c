use Rattle.std.proofs.Common.{◌≡◌, ◌∙◌, Option, Some, None, ap, length, refl, subst}
use Rattle.lrc_chart_rows.specs.declared.taking.Span.{Span}
use Rattle.lrc_chart_rows.specs.Takings.{IsSpan, name_of}
use Rattle.lrc_chart_rows.proofs.Spanning.{takers_none, span_of}
use Rattle.lrc_chart_rows.proofs.taker.takers.Goals as goal
use Rattle.lrc_chart_rows.proofs.taker.takers.Goals.{in-Some+in_ok-push_takers, in_default}

none_of : (o : Option Span) → ((s : Span) → o ≡ Some s → ⊥) → o ≡ None
none_of None h = refl
none_of (Some s) h = absurd (h s refl)

pub push_takers-requires-clause-span : goal.push_takers-requires-clause-span
push_takers-requires-clause-span c =
    subst (IsSpan c.args.turns.now (length c.args.turns.now) (name_of c.args.envelope.now)) c.in-Some.is
    (span_of c.args.turns.now c.args.takings.now c.args.envelope.now c.span.result c.requires c.span.ensures)

pub returns : goal.returns
returns c =
    elim c.match-span.branch [
      | in-Some+in_ok-push_takers w ↦ ap (λ v. v.items) w.positions-is ∙ w.in_ok-push_takers.ensures
      | in_default w ↦
          ap (λ v. v.items) w.positions-is ∙ c.new-positions.ensures.items
          ∙ takers_none c.args.turns.now c.args.envelope.now
          (subst (IsSpan c.args.turns.now (length c.args.turns.now) (name_of c.args.envelope.now)) (none_of c.span.result w.in_default.not-Some)
          (span_of c.args.turns.now c.args.takings.now c.args.envelope.now c.span.result c.requires c.span.ensures))
    ]
