use Rattle.std.proofs.Common.{refl}
use Rattle.std.proofs.lemmas.Result.{on_ok_weaker}
use Rattle.lrc_text.proofs.Pushed.{and_then, number_is, slice_ok, then_ok, extended_ok}
use Rattle.lrc_why_lines.specs.Racing.{held_line}
use Rattle.lrc_why_lines.proofs.opponents.push_held.Goals as goal

pub returns : goal.returns
unfolding held_line
returns c =
    let old = c.args.text.now.items in
    let e1 = number_is old _ _ _ _ c.in_ok-push_number.ensures.ok refl in
    let e2 = and_then old _ _ _ e1 _ (rw c.deref.ensures.value at c.in_ok-push_locks.ensures) in
    let e3 = and_then old _ _ _ e2 _ (number_is _ _ _ _ _ c.in_ok-push_number-2.ensures.ok refl) in
    let e4 = and_then old _ _ _ e3 _ (rw c.deref-2.ensures.value at c.in_ok-push_locks-2.ensures) in
    let e5 = and_then old _ _ _ e4 _ c.in_ok-push_where.ensures in
    slice_ok old _ _ _ e5 c.extend_from_slice.result _ c.extend_from_slice.ensures.items
