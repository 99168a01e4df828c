-- It is known already, or is this line, or there is none.
use Rattle.std.proofs.Common.{◌∙◌, subst, sym, true≢false}
use Rattle.lrc_races_notes.specs.Noter.{IsBlankOf}
use Rattle.lrc_races_notes.proofs.NoterLemmas.{none_more}
use Rattle.lrc_races_notes.proofs.noter.blank_with.Goals as goal

pub returns-else-is_blank_in : goal.returns-else-is_blank_in
returns-else-is_blank_in c lines counted h =
    none_more c.args.form lines c.args.line.now (subst (IsBlankOf c.args.form lines) c.in-None.is h)
    (λ b. true≢false (sym (c.is_blank_in.ensures.1 b) ∙ c.if-is_blank_in.false))
