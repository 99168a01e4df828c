use Rattle.std.proofs.Common.{◌≡◌, ◌∙◌, ℕ, Bool, ap}
use Rattle.lrc_trace.specs.declared.act.Act.{Act}
use Rattle.lrc_explain.specs.declared.site.Site.{Site}
use Rattle.lrc_explain.specs.Site.{deed_writes}
use Rattle.lrc_explain.proofs.site.site_of.Goals as goal

same_site : {a a' c c' : ℕ} {b b' d d' : Bool} → a ≡ a' → b ≡ b' → c ≡ c' → d ≡ d'
    → ◌≡◌ {A = Site} (record { line = a; writes = b; later_line = c; later_writes = d })
    (record { line = a'; writes = b'; later_line = c'; later_writes = d' })
same_site p q r s = cc

pub returns : goal.returns
returns c =
    same_site c.line_at.ensures (c.deed_writes.ensures ∙ ap (λ (act : Act). deed_writes act.deed) c.act_at.ensures) c.line_at-2.ensures
    (c.deed_writes-2.ensures ∙ ap (λ (act : Act). deed_writes act.deed) c.act_at-2.ensures)
