use Rattle.std.proofs.Common.{refl}
use Rattle.std.proofs.lemmas.Result.{on_ok_weaker}
use Rattle.lrc_text.proofs.Pushed.{and_then, number_is, slice_ok, then_ok, extended_ok}
use Rattle.lrc_why_text.specs.Learning.{nobody_line}
use Rattle.lrc_why_text.proofs.forward.push_nobody.Goals as goal

pub returns : goal.returns
unfolding nobody_line
returns c =
    let e1 = number_is c.args.text.now.items _ _ _ _ c.in_ok-push_number.ensures.ok refl in
    slice_ok c.args.text.now.items _ _ _ e1 c.extend_from_slice.result _ c.extend_from_slice.ensures.items
