use Rattle.std.proofs.Common.{◌∙◌, ◌++◌, ℕ, List, ap, sym, get_or, take}
use Rattle.std.specs.List.{flat_map}
use Rattle.std.proofs.lemmas.List.{flat_map_more, take_more}
use Rattle.lrc_stats.specs.declared.deed_kind.DeedKind.{DeedKind}
use Rattle.lrc_stats.specs.DeedKinds.{deed_kinds}
use Rattle.lrc_stats.specs.StatsText.{acts_line}
use Rattle.lrc_stats.proofs.Logs.{items}
use Rattle.lrc_stats.proofs.stats.push_acts.Goals as goal

pub loop-kind-preserved : goal.loop-kind-preserved
loop-kind-preserved c =
    let i = c.loop-kind.kind-index in
    let text = c.args.text.now.items in
    let line : DeedKind → List ℕ = acts_line (items c.args.logs.now) in
    let kind = get_or deed_kinds i _ in
    c.in_ok-push_acts_of.ensures ∙ ap (λ l. l ++ line kind) c.loop-kind.invariant ∙ flat_map_more line text (take i deed_kinds) kind
    ∙ ap (λ l. text ++ flat_map line l) (sym (take_more deed_kinds i _ c.loop-kind-test.true))
