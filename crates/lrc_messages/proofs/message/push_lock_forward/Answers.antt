use Rattle.std.proofs.Common.{◌≡◌, ◌∙◌, ◌++◌, ℕ, List, ap, subst}
use Rattle.std.specs.Prelude.{OnOk, codes, decimal}
use Rattle.std.proofs.lemmas.Result.{IfOk-from_err}
use Rattle.lrc_text.proofs.Fronts.{begins_still}
use Rattle.lrc_wire.specs.declared.kind.MessageKind.TheVariants as kinds
use Rattle.lrc_envelope.specs.Records.{LockForwardRecord}
use Rattle.lrc_messages.specs.MessageText.{named, time_text}
use Rattle.lrc_text.proofs.Pushed.{and_number, err_is, then_err, then_ok}
use Rattle.lrc_messages.proofs.message.push_lock_forward.Goals as goal

pub returns : goal.returns
returns c =
    let text = c.args.text.now.items in
    let first = c.push_named.new.text.items in
    let words_first : List ℕ = named kinds.LockForward (codes " ") c.args.m.now.lock in
    let first_is : first ≡ text ++ words_first =
    c.in_ok-push_named.ensures.ok ∙ ap (λ n. text ++ named kinds.LockForward (codes " ") n) (c.from.ensures ∙ ap (λ (m : LockForwardRecord). m.lock)
    c.m.view_is) in
    let second = c.push_number.new.text.items in
    let words_second : List ℕ = words_first ++ codes " for " ++ decimal c.args.m.now.asker in
    let second_is : second ≡ text ++ words_second =
    and_number text words_first first second first_is (codes " for ") c.from-2.result c.args.m.now.asker c.in_ok-push_number.ensures.ok (c.from-2.ensures
    ∙ ap (λ (m : LockForwardRecord). m.asker) c.m.view_is) in
    let last = c.push_time.new.text.items in
    record {
      ok = then_ok text words_second second last second_is c.push_time.result (time_text c.args.m.now.time)
          (subst (λ (m : LockForwardRecord). OnOk c.push_time.result (last ≡ second ++ time_text m.time)) c.m.view_is c.push_time.ensures.ok);
      err = then_err text words_second second last second_is c.push_time.result c.push_time.ensures.err;
    }

pub returns-in_err-push_named : goal.returns-in_err-push_named
returns-in_err-push_named c =
    record {
      ok = IfOk-from_err c.from_residual.result _ c.from_residual.ensures.0;
      err = err_is c.from_residual.result c.in_err-push_named.ensures.err;
    }

pub returns-in_err-push_number : goal.returns-in_err-push_number
returns-in_err-push_number c =
    let text = c.args.text.now.items in
    let first = c.push_named.new.text.items in
    let words_first : List ℕ = named kinds.LockForward (codes " ") c.args.m.now.lock in
    let first_is : first ≡ text ++ words_first =
    c.in_ok-push_named.ensures.ok ∙ ap (λ n. text ++ named kinds.LockForward (codes " ") n) (c.from.ensures ∙ ap (λ (m : LockForwardRecord). m.lock)
    c.m.view_is) in
    record {
      ok = IfOk-from_err c.from_residual-in_err-push_number.result _ c.from_residual-in_err-push_number.ensures.0;
      err = err_is c.from_residual-in_err-push_number.result
          (begins_still text words_first first c.push_number.new.text.items first_is c.in_err-push_number.ensures.err);
    }
