use Rattle.std.proofs.Common.{refl}
use Rattle.std.proofs.lemmas.Result.{on_ok_weaker}
use Rattle.lrc_text.proofs.Pushed.{and_then, number_is, slice_ok, then_ok, extended_ok}
use Rattle.lrc_why_lines.specs.Ordered.{within_line}
use Rattle.lrc_why_lines.proofs.relation.push_within.Goals as goal

pub returns : goal.returns
unfolding within_line
returns c =
    let old = c.args.text.now.items in
    let e1 = number_is old _ _ _ _ c.in_ok-push_number.ensures.ok c.node_at.ensures in
    let e2 = and_then old _ _ _ e1 _ c.in_ok-extend_from_slice.ensures.items in
    let e3 = and_then old _ _ _ e2 _ c.in_ok-push_there.ensures in
    slice_ok old _ _ _ e3 c.extend_from_slice-2.result _ c.extend_from_slice-2.ensures.items
