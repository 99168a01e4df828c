use Rattle.std.proofs.Common.{refl}
use Rattle.std.proofs.lemmas.Result.{on_ok_weaker}
use Rattle.lrc_text.proofs.Pushed.{and_then, number_is, slice_ok, then_ok, extended_ok}
use Rattle.lrc_why_lines.specs.Racing.{place_text}
use Rattle.lrc_why_lines.proofs.opponents.push_place.Goals as goal

pub returns : goal.returns
unfolding place_text
returns c =
    let e1 = number_is c.args.text.now.items _ _ _ _ c.in_ok-push_number.ensures.ok refl in
    let e2 = and_then c.args.text.now.items _ _ _ e1 _ (number_is _ _ _ _ _ c.in_ok-push_number-2.ensures.ok c.interval_at.ensures) in
    on_ok_weaker c.push_number-3.result (λ e. and_then c.args.text.now.items _ _ _ e2 _ (number_is _ _ _ _ _ e c.node_at.ensures)) c.push_number-3.ensures.ok
