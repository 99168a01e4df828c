use Rattle.std.proofs.Common.{◌≡◌, ◌∙◌, ◌+◌, Option, Some, None, refl, subst, sym}
use Rattle.std.specs.BTreeMap.{BTreeMap, get}
use Rattle.lrc_chart_rows.specs.declared.taking.Name.{Name}
use Rattle.lrc_chart_rows.specs.declared.taking.Span.{Span}
use Rattle.lrc_chart_rows.specs.Takings.{IsSpan, name_cmp}
use Rattle.lrc_chart_rows.proofs.Spanning.{spans_added, spans_passed}
use Rattle.lrc_chart_rows.proofs.taking.takings_of.Goals as goal
use Rattle.lrc_chart_rows.proofs.taking.takings_of.Goals.{in-Some+in_ok-insert, in_default}

none_of : (o : Option Name) → ((n : Name) → o ≡ Some n → ⊥) → o ≡ None
none_of None h = refl
none_of (Some n) h = absurd (h n refl)

pub loop-position-preserved : goal.loop-position-preserved
loop-position-preserved c =
    let turns = c.args.turns.now in
    let i = c.loop-position.position in
    elim c.match-name_taken.branch [
      | in-Some+in_ok-insert w ↦
          subst (λ (m : BTreeMap Name Span). (q : Name) → IsSpan turns (i + 1) q (get name_cmp m q)) (sym w.spans-is)
          (spans_added turns i c.index-turns-position.result c.loop-position-test.true c.index-turns-position.is w.in-Some.name w.first_or-first.result
          c.loop-position.spans w.insert.new.self (sym c.name_taken.ensures ∙ w.in-Some.is) w.first_or-first.ensures w.in_ok-insert.ensures.updates
          c.loop-position.invariant)
      | in_default w ↦
          subst (λ (m : BTreeMap Name Span). (q : Name) → IsSpan turns (i + 1) q (get name_cmp m q)) (sym w.spans-is)
          (spans_passed turns i c.index-turns-position.result c.loop-position-test.true c.index-turns-position.is c.loop-position.spans
          (sym c.name_taken.ensures ∙ none_of c.name_taken.result w.in_default.not-Some) c.loop-position.invariant)
    ]
