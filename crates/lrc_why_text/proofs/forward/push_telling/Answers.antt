use Rattle.std.proofs.Common.{refl}
use Rattle.std.proofs.lemmas.Result.{on_ok_weaker}
use Rattle.lrc_text.proofs.Pushed.{and_then, number_is, slice_ok, then_ok, extended_ok}
use Rattle.lrc_why_text.specs.Learning.{telling_line}
use Rattle.lrc_why_text.proofs.forward.push_telling.Goals as goal

pub returns : goal.returns
unfolding telling_line
returns c =
    let old = c.args.text.now.items in
    let e1 = c.in_ok-extend_from_slice.ensures.items in
    let e2 = and_then old _ _ _ e1 _ c.in_ok-push_there.ensures in
    slice_ok old _ _ _ e2 c.extend_from_slice-2.result _ c.extend_from_slice-2.ensures.items
