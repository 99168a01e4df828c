use Rattle.std.proofs.Common.{◌≡◌, ◌++◌, ℕ, List, refl}
use Rattle.std.specs.Prelude.{codes, decimal}
use Rattle.std.proofs.lemmas.Result.{on_ok_weaker}
use Rattle.lrc_labels.specs.Reading.{Label}
use Rattle.lrc_text.proofs.Pushed.{number_is}
use Rattle.lrc_trace.specs.declared.act.Deed.{Deed}
use Rattle.lrc_trace.specs.declared.act.Deed.TheVariants.{Acquire}
use Rattle.lrc_why_lines.specs.Ordered.{by_text}
use Rattle.lrc_why_lines.proofs.relation.push_by.Goals as goal

by_barrier : (labels : List Label) (d : Deed) (number : ℕ) → ((l : ℕ) → d ≡ Acquire l → ⊥) → by_text labels d number ≡ codes "    by barrier " ++ decimal number
unfolding by_text
by_barrier labels (Acquire l) number none = absurd (none l refl)
by_barrier labels _ number none = refl

pub returns-in_default : goal.returns-in_default
returns-in_default c =
    rw (by_barrier _ c.args.deed c.args.number (λ l e. c.in_default.not-Acquire l e))
    (on_ok_weaker c.push_number.result (λ e. number_is c.args.text.now.items _ _ _ _ e refl) c.push_number.ensures.ok)
