use Rattle.std.proofs.Common.{◌≡◌, ◌<◌, ◌≤◌, length, sym, ap, ◌∙◌, arith}
use Rattle.std.specs.Prelude.{nat_lt, slice_index_or}
use Rattle.std.proofs.lemmas.Bool.{lt-ltb, le-ltb, and_from}
use Rattle.std.proofs.lemmas.List.Folds.{list_all_at, list_all_more}
use Rattle.std.proofs.lemmas.Option.{get_or_from_slice_get}
use Rattle.lrc_page.specs.declared.changes.Change.{Change}
use Rattle.lrc_node.proofs.pages.replies.are_on_page.Goals as goal

pub returns-then-from-words : goal.returns-then-from-words
returns-then-from-words c =
    let changes = c.args.changes.now in
    let i = c.loop-place.place in
    let here : slice_index_or changes i c.at.result ≡ c.at.result = get_or_from_slice_get changes i c.at.result c.at.result c.at.ensures in
    let within : i < length changes = omega (arith, c.loop-place-test.true, c.len-place-end.ensures.count) in
    let above : c.args.words ≤ c.at.result.offset = omega (arith, c.if-from-words.true, c.from.ensures) in
    sym (list_all_at (λ (change : Change). nat_lt change.offset c.args.words) changes i c.at.result within
    (ap (λ (change : Change). nat_lt change.offset c.args.words) here ∙ le-ltb c.at.result.offset c.args.words above))

pub loop-place-preserved : goal.loop-place-preserved
loop-place-preserved c =
    let changes = c.args.changes.now in
    let i = c.loop-place.place in
    let here : slice_index_or changes i c.at.result ≡ c.at.result = get_or_from_slice_get changes i c.at.result c.at.result c.at.ensures in
    let within : i < length changes = omega (arith, c.loop-place-test.true, c.len-place-end.ensures.count) in
    let below : c.at.result.offset < c.args.words = omega (arith, c.if-from-words.false, c.from.ensures) in
    list_all_more (λ (change : Change). nat_lt change.offset c.args.words) changes i c.at.result within
    ∙ and_from _ _ c.loop-place.invariant (ap (λ (change : Change). nat_lt change.offset c.args.words) here ∙ lt-ltb c.at.result.offset c.args.words below)
