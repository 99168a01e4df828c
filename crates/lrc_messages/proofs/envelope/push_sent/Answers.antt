use Rattle.std.proofs.Common.{◌≡◌, ◌∙◌, ◌++◌, ℕ, List, ap, append_assoc, sym}
use Rattle.std.specs.Prelude.{codes, decimal}
use Rattle.std.proofs.lemmas.Result.{IfOk-from_err}
use Rattle.lrc_text.proofs.Fronts.{begins_still}
use Rattle.lrc_envelope.specs.Envelope.{EnvelopeRecord}
use Rattle.lrc_messages.specs.MessageText.{message_text}
use Rattle.lrc_messages.specs.TurnText.{size_text}
use Rattle.lrc_text.proofs.Pushed.{and_then, err_is, slice_err, slice_ok}
use Rattle.lrc_messages.proofs.envelope.push_sent.Goals as goal

with_size : (head size : List ℕ) → head ++ (codes ", " ++ size ++ codes " bytes: ") ≡ head ++ codes ", " ++ size ++ codes " bytes: "
with_size head size = sym (append_assoc (head ++ codes ", ") size (codes " bytes: ") ∙ append_assoc head (codes ", ") (size ++ codes " bytes: "))

pub returns : goal.returns
returns c =
    let text = c.args.text.now.items in
    let envelope = c.args.envelope.now in
    let head : EnvelopeRecord → List ℕ =
    λ m. codes "# node " ++ decimal c.args.node ++ codes " sends " ++ decimal m.number ++ codes " to " ++ decimal m.to in
    let first = c.push_head.new.text.items in
    let first_is : first ≡ text ++ head envelope = c.in_ok-push_head.ensures.ok ∙ ap (λ m. text ++ head m) c.envelope.view_is in
    let size : List ℕ = size_text envelope in
    let second = c.push_bytes.new.text.items in
    let before : List ℕ = head envelope ++ codes ", " ++ size ++ codes " bytes: " in
    let second_is : second ≡ text ++ before =
    and_then text (head envelope) first second first_is (codes ", " ++ size ++ codes " bytes: ") c.in_ok-push_bytes.ensures.ok
    ∙ ap (λ l. text ++ l) (with_size (head envelope) size) in
    let third = c.push_message.new.text.items in
    let words : List ℕ = before ++ message_text envelope.message in
    let third_is : third ≡ text ++ words =
    and_then text before second third second_is (message_text envelope.message)
    (c.in_ok-push_message.ensures.ok ∙ ap (λ (m : EnvelopeRecord). second ++ message_text m.message) c.envelope.view_is) in
    let last = c.extend_from_slice.new.self.items in
    record {
      ok = slice_ok text words third last third_is c.extend_from_slice.result (codes "\n") c.extend_from_slice.ensures.items;
      err = slice_err text words third last third_is c.extend_from_slice.result (codes "\n") c.extend_from_slice.ensures.items;
    }

pub returns-in_err-push_head : goal.returns-in_err-push_head
returns-in_err-push_head c =
    record {
      ok = IfOk-from_err c.from_residual.result _ c.from_residual.ensures.0;
      err = err_is c.from_residual.result c.in_err-push_head.ensures.err;
    }

pub returns-in_err-push_bytes : goal.returns-in_err-push_bytes
returns-in_err-push_bytes c =
    record {
      ok = IfOk-from_err c.from_residual-in_err-push_bytes.result _ c.from_residual-in_err-push_bytes.ensures.0;
      err = err_is c.from_residual-in_err-push_bytes.result
          (begins_still c.args.text.now.items _ c.push_head.new.text.items c.push_bytes.new.text.items c.in_ok-push_head.ensures.ok
          c.in_err-push_bytes.ensures.err);
    }

pub returns-in_err-push_message : goal.returns-in_err-push_message
returns-in_err-push_message c =
    let first = c.push_head.new.text.items in
    let last = c.push_message.new.text.items in
    record {
      ok = IfOk-from_err c.from_residual-in_err-push_message.result _ c.from_residual-in_err-push_message.ensures.0;
      err = err_is c.from_residual-in_err-push_message.result
          (begins_still c.args.text.now.items _ first last c.in_ok-push_head.ensures.ok
          (begins_still first _ c.push_bytes.new.text.items last c.in_ok-push_bytes.ensures.ok c.in_err-push_message.ensures.err));
    }
