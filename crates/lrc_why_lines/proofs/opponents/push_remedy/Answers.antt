use Rattle.std.proofs.Common.{refl}
use Rattle.std.proofs.lemmas.Result.{on_ok_weaker}
use Rattle.lrc_text.proofs.Pushed.{and_then, number_is, slice_ok, then_ok, extended_ok}
use Rattle.lrc_why_lines.specs.Racing.{remedy_line}
use Rattle.lrc_why_lines.proofs.opponents.push_remedy.Goals as goal

pub returns : goal.returns
unfolding remedy_line
returns c =
    let old = c.args.text.now.items in
    let e1 = c.in_ok-extend_from_slice.ensures.items in
    let e2 = and_then old _ _ _ e1 _ (rw c.node_at.ensures at c.in_ok-push_after.ensures) in
    let e3 = and_then old _ _ _ e2 _ (rw c.node_at-2.ensures at c.in_ok-push_after-2.ensures) in
    slice_ok old _ _ _ e3 c.extend_from_slice-2.result _ c.extend_from_slice-2.ensures.items
