use Rattle.std.proofs.Common.{◌∙◌, ◌∷◌, [], ◌++◌, ℕ, List, Option, ap₂, sym}
use Rattle.lrc_text.proofs.Each.{each_more}
use Rattle.lrc_explain_waits.specs.declared.stand.Stand.{Stand}
use Rattle.lrc_explain_waits.specs.Circles.{waits_by}
use Rattle.lrc_explain_waits.proofs.Standing.{no_stand}
use Rattle.lrc_explain_waits.proofs.circles.waits_of.Goals as goal

pub loop-me-preserved : goal.loop-me-preserved
loop-me-preserved c =
    let stands = c.args.stands.now in
    let of : ℕ → Stand → List (Option ℕ) = λ me stand. waits_by stands me stand ∷ [] in
    c.in_ok-push.ensures.items ∙ ap₂ (λ l next. l ++ next ∷ []) c.loop-me.invariant c.in_ok-next.ensures
    ∙ sym (each_more of stands c.loop-me.me no_stand c.loop-me-test.true)
