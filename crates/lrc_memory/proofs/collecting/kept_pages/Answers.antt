use Rattle.std.proofs.Common.{◌∙◌, ◌++◌, ◌∷◌, [], append-nil, true, false, ap, sym}
use Rattle.lrc_memory.specs.Notes.{keepers_of}
use Rattle.lrc_memory.proofs.Keepers.{is_kept, kept_more, kept_below}
use Rattle.lrc_memory.proofs.collecting.kept_pages.Goals as goal
use Rattle.lrc_memory.proofs.collecting.kept_pages.Goals.{then-is_kept+in_ok-push, else-is_kept}

pub push-requires-clause-above : goal.push-requires-clause-above
push-requires-clause-above c = rw c.loop-page.invariant (kept_below (is_kept c.args.store.now (keepers_of c.args.notes.now) c.args.me) c.loop-page.page)

pub loop-page-preserved : goal.loop-page-preserved
loop-page-preserved c =
    let p = is_kept c.args.store.now (keepers_of c.args.notes.now) c.args.me in
    elim c.if-is_kept.branch [
      | then-is_kept+in_ok-push w ↦
          w.pages-is ∙ w.in_ok-push.ensures.ok ∙ ap (λ l. l ++ c.loop-page.page ∷ []) c.loop-page.invariant
          ∙ sym (kept_more p c.loop-page.page true (sym c.is_kept.ensures ∙ w.if-is_kept.true))
      | else-is_kept w ↦
          w.pages-is ∙ c.loop-page.invariant
          ∙ sym (kept_more p c.loop-page.page false (sym c.is_kept.ensures ∙ w.if-is_kept.false) ∙ append-nil _)
    ]
