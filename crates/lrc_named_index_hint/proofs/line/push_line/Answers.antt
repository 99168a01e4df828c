use Rattle.std.proofs.Common.{refl}
use Rattle.lrc_text.proofs.Pushed.{and_number, number_is, slice_ok}
use Rattle.lrc_named_index_hint.proofs.line.push_line.Goals as goal

pub returns : goal.returns
returns c =
    let old = c.args.line.now.items in
    let e1 = number_is old _ _ _ _ c.in_ok-push_number.ensures.ok refl in
    let e2 = and_number old _ _ _ e1 _ _ _ c.in_ok-push_number-2.ensures.ok c.from.ensures in
    slice_ok old _ _ _ e2 c.extend_from_slice.result _ c.extend_from_slice.ensures.items
