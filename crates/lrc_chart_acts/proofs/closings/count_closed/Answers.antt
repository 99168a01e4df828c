use Rattle.std.proofs.Common.{◌≡◌, ◌∙◌, ◌<◌, ◌+◌, ℕ, List, ap, arith, length, subst, sym}
use Rattle.std.specs.Prelude.{count_by}
use Rattle.std.specs.List.Sorted.{IsPartitionedBy}
use Rattle.lrc_chart_acts.specs.Times.{closings, count_closed, is_known}
use Rattle.lrc_chart_acts.proofs.Closing.{closed_few, closed_known, closings_parted, kept_of, known_down}
use Rattle.lrc_chart_acts.proofs.closings.count_closed.Goals as goal

pub count_known-requires : goal.count_known-requires
count_known-requires c =
    let acts = c.args.acts.now in
    let node = c.args.node in
    let order = c.args.order.now in
    let position = c.args.position in
    let same : c.from.result ≡ node = c.from.ensures in
    let inside : c.from.result < length c.args.closings.now = omega (arith, same, c.requires.node) in
    let found_is : c.as_slice-found.result.now ≡ closings acts node =
    c.as_slice-found.ensures.value
    ∙ kept_of acts c.args.closings.now c.index-closings-from.result (λ v. v.items) c.from.result c.index-closings-from.is inside c.requires.closings
    ∙ ap (closings acts) same in
    subst (λ (l : List ℕ). IsPartitionedBy (is_known order position) l) (sym found_is)
    (closings_parted acts node (is_known order position) (known_down acts order c.requires.order position node))

pub overflow_cast-result : goal.overflow_cast-result
overflow_cast-result c =
    let acts = c.args.acts.now in
    let node = c.args.node in
    let order = c.args.order.now in
    let position = c.args.position in
    let same : c.from.result ≡ node = c.from.ensures in
    let inside : c.from.result < length c.args.closings.now = omega (arith, same, c.requires.node) in
    let found_is : c.as_slice-found.result.now ≡ closings acts node =
    c.as_slice-found.ensures.value
    ∙ kept_of acts c.args.closings.now c.index-closings-from.result (λ v. v.items) c.from.result c.index-closings-from.is inside c.requires.closings
    ∙ ap (closings acts) same in
    let is : c.count_known.result ≡ count_closed order acts position node (position + 1) =
    c.count_known.ensures ∙ ap (count_by (is_known order position)) found_is ∙ sym (closed_known acts order position node c.requires.position) in
    let le = closed_few acts order position node (position + 1) in
    omega (arith, is, le, c.requires.few)

pub returns : goal.returns
returns c =
    let acts = c.args.acts.now in
    let node = c.args.node in
    let order = c.args.order.now in
    let position = c.args.position in
    let same : c.from.result ≡ node = c.from.ensures in
    let inside : c.from.result < length c.args.closings.now = omega (arith, same, c.requires.node) in
    let found_is : c.as_slice-found.result.now ≡ closings acts node =
    c.as_slice-found.ensures.value
    ∙ kept_of acts c.args.closings.now c.index-closings-from.result (λ v. v.items) c.from.result c.index-closings-from.is inside c.requires.closings
    ∙ ap (closings acts) same in
    c.count_known.ensures ∙ ap (count_by (is_known order position)) found_is ∙ sym (closed_known acts order position node c.requires.position)
