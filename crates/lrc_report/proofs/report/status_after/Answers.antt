use Rattle.std.proofs.Common.{◌≡◌, ◌∙◌, Bool, cond, sym, ap, rules, tests}
use Rattle.std.specs.List.{list_all}
use Rattle.std.proofs.lemmas.Iterator.{YieldsList-from_slice}
use Rattle.std.proofs.lemmas.Iterator.Search.{all_from_yields_List}
use Rattle.lrc_report.specs.ReportText.{is_ended}
use Rattle.lrc_report.proofs.report.status_after.Goals as goal

pub returns-then-all : goal.returns-then-all
returns-then-all c =
    let value : c.all.result ≡ list_all is_ended c.args.ends.now =
    all_from_yields_List is_ended _ _ c.all.result c.all.ensures.ran (YieldsList-from_slice c.args.ends.now cc) (λ x b q k. search (rules, tests)) in
    ap (λ (b : Bool). cond b 0 4) (sym c.if-all.true ∙ value)
