use Rattle.std.proofs.Common.{refl}
use Rattle.std.proofs.lemmas.Result.{on_ok_weaker}
use Rattle.lrc_text.proofs.Pushed.{and_then, number_is, slice_ok, then_ok, extended_ok}
use Rattle.lrc_why_lines.specs.Racing.{known_text}
use Rattle.lrc_why_lines.proofs.opponents.push_known.Goals as goal

pub returns-in_ok-push_number-in-Some : goal.returns-in_ok-push_number-in-Some
unfolding known_text
returns-in_ok-push_number-in-Some c =
    let e1 = number_is c.args.text.now.items _ _ _ _ c.in_ok-push_number-in-Some.ensures.ok refl in
    rw c.in-Some.is (on_ok_weaker c.push_number-in-Some.result
    (λ e. and_then c.args.text.now.items _ _ _ e1 _ (number_is _ _ _ _ _ e c.interval_at.ensures)) c.push_number-in-Some.ensures.ok)

pub returns-in-None : goal.returns-in-None
unfolding known_text
returns-in-None c =
    rw c.in-None.is (on_ok_weaker c.push_number-in-None.result (λ e. number_is c.args.text.now.items _ _ _ _ e refl) c.push_number-in-None.ensures.ok)
