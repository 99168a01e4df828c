use Rattle.std.proofs.Common.{◌≡◌, ◌∙◌, sym, rules}
use Rattle.std.specs.Cmp.Lexicographic.{pointwise}
use Rattle.lrc_page.specs.Changes.{same_change}
use Rattle.lrc_page.proofs.ChangeLists.{same_changes}
use Rattle.lrc_page.proofs.changes.ChangesPartialEq.eq.Goals as goal

pub returns-clause-same : goal.returns-clause-same
returns-clause-same c =
    let is : c.eq.result ≡ pointwise same_change c.args.self.now c.args.other.now = search rules in
    let decides = same_changes c.args.self.now c.args.other.now in
    (λ holds. decides.0 (sym is ∙ holds), λ equal. is ∙ decides.1 equal)
