use Rattle.std.proofs.Common.{◌≡◌, ◌∙◌, ◌++◌, ℕ, List, ap}
use Rattle.std.specs.Prelude.{codes, decimal, if◌then◌else◌}
use Rattle.std.proofs.lemmas.Result.{IfOk-from_err}
use Rattle.lrc_text.proofs.Fronts.{begins_still}
use Rattle.lrc_envelope.specs.Envelope.{EnvelopeRecord}
use Rattle.lrc_messages.specs.MessageText.{message_text}
use Rattle.lrc_text.proofs.Pushed.{and_then, err_is, slice_err, slice_ok}
use Rattle.lrc_messages.proofs.envelope.push_taken.Goals as goal

pub returns : goal.returns
returns c =
    let text = c.args.text.now.items in
    let envelope = c.args.envelope.now in
    let head : EnvelopeRecord → List ℕ =
    λ m. codes "# node " ++ decimal c.args.node ++ codes " takes " ++ decimal m.number ++ codes " from " ++ decimal m.from in
    let said : EnvelopeRecord → List ℕ = λ m. if c.args.again then codes " again" else codes ": " ++ message_text m.message in
    let first = c.push_head.new.text.items in
    let first_is : first ≡ text ++ head envelope = c.in_ok-push_head.ensures.ok ∙ ap (λ m. text ++ head m) c.envelope.view_is in
    let second = c.push_said.new.text.items in
    let words : List ℕ = head envelope ++ said envelope in
    let second_is : second ≡ text ++ words =
    and_then text (head envelope) first second first_is (said envelope)
    (c.in_ok-push_said.ensures.ok ∙ ap (λ m. first ++ said m) c.envelope.view_is) in
    let last = c.extend_from_slice.new.self.items in
    record {
      ok = slice_ok text words second last second_is c.extend_from_slice.result (codes "\n") c.extend_from_slice.ensures.items;
      err = slice_err text words second last second_is c.extend_from_slice.result (codes "\n") c.extend_from_slice.ensures.items;
    }

pub returns-in_err-push_head : goal.returns-in_err-push_head
returns-in_err-push_head c =
    record {
      ok = IfOk-from_err c.from_residual.result _ c.from_residual.ensures.0;
      err = err_is c.from_residual.result c.in_err-push_head.ensures.err;
    }

pub returns-in_err-push_said : goal.returns-in_err-push_said
returns-in_err-push_said c =
    record {
      ok = IfOk-from_err c.from_residual-in_err-push_said.result _ c.from_residual-in_err-push_said.ensures.0;
      err = err_is c.from_residual-in_err-push_said.result
          (begins_still c.args.text.now.items _ c.push_head.new.text.items c.push_said.new.text.items c.in_ok-push_head.ensures.ok
          c.in_err-push_said.ensures.err);
    }
