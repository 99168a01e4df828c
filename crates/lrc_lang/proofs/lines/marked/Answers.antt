use Rattle.std.proofs.Common.{refl, sym, subst}
use Rattle.lrc_lang.proofs.Beginnings.{IsMarkedTo, marked_more}
use Rattle.lrc_lang.proofs.lines.marked.Goals as goal

pub loop-lines-preserved : goal.loop-lines-preserved
loop-lines-preserved c =
    let next = c.next_lexeme-found.new.self in
    subst (λ b. IsMarkedTo c.args.text.now next.line next.rest.now c.mark.new.lines.items b) (sym c.is_seam-behind_seam.ensures)
    (marked_more c.args.text.now _ _ _ _ _ c.loop-lines.invariant _ _ _ c.next_lexeme-found.ensures.next c.in_ok-mark.ensures
    (c.if-not-goes_on.ensures.0 refl))
