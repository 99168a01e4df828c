use Rattle.std.proofs.Common.{◌∙◌, ◌++◌, ℕ, List, ap, sym, get_or, take}
use Rattle.std.specs.List.{flat_map}
use Rattle.std.proofs.lemmas.List.{flat_map_more, take_more}
use Rattle.lrc_wire.specs.declared.kind.MessageKind.{MessageKind}
use Rattle.lrc_stats.specs.StatsText.{kind_line, message_kinds}
use Rattle.lrc_stats.proofs.stats.push_kinds.Goals as goal

pub loop-kind-preserved : goal.loop-kind-preserved
loop-kind-preserved c =
    let i = c.loop-kind.kind-index in
    let text = c.args.text.now.items in
    let line : MessageKind → List ℕ = kind_line c.args.sent.now in
    let kind = get_or message_kinds i _ in
    c.in_ok-push_kind.ensures ∙ ap (λ l. l ++ line kind) c.loop-kind.invariant ∙ flat_map_more line text (take i message_kinds) kind
    ∙ ap (λ l. text ++ flat_map line l) (sym (take_more message_kinds i _ c.loop-kind-test.true))
