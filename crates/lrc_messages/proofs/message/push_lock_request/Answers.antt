use Rattle.std.proofs.Common.{◌≡◌, ◌∙◌, ◌++◌, ℕ, List, ap, subst}
use Rattle.std.specs.Prelude.{OnOk, codes}
use Rattle.std.proofs.lemmas.Result.{IfOk-from_err}
use Rattle.lrc_wire.specs.declared.kind.MessageKind.TheVariants as kinds
use Rattle.lrc_envelope.specs.Records.{LockRequestRecord}
use Rattle.lrc_messages.specs.MessageText.{named, time_text}
use Rattle.lrc_text.proofs.Pushed.{err_is, then_err, then_ok}
use Rattle.lrc_messages.proofs.message.push_lock_request.Goals as goal

pub returns : goal.returns
returns c =
    let text = c.args.text.now.items in
    let first = c.push_named.new.text.items in
    let words_first : List ℕ = named kinds.LockRequest (codes " ") c.args.m.now.lock in
    let first_is : first ≡ text ++ words_first =
    c.in_ok-push_named.ensures.ok ∙ ap (λ n. text ++ named kinds.LockRequest (codes " ") n) (c.from.ensures ∙ ap (λ (m : LockRequestRecord). m.lock)
    c.m.view_is) in
    let last = c.push_time.new.text.items in
    record {
      ok = then_ok text words_first first last first_is c.push_time.result (time_text c.args.m.now.time)
          (subst (λ (m : LockRequestRecord). OnOk c.push_time.result (last ≡ first ++ time_text m.time)) c.m.view_is c.push_time.ensures.ok);
      err = then_err text words_first first last first_is c.push_time.result c.push_time.ensures.err;
    }

pub returns-in_err-push_named : goal.returns-in_err-push_named
returns-in_err-push_named c =
    record {
      ok = IfOk-from_err c.from_residual.result _ c.from_residual.ensures.0;
      err = err_is c.from_residual.result c.in_err-push_named.ensures.err;
    }
