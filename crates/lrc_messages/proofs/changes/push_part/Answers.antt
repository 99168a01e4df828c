use Rattle.std.proofs.Common.{◌≡◌, ◌∙◌, ◌++◌, ℕ, List, [], ap, subst}
use Rattle.std.specs.Prelude.{OnOk, codes, decimal}
use Rattle.std.proofs.lemmas.Result.{IfOk-from_err}
use Rattle.lrc_text.proofs.Fronts.{begins_still}
use Rattle.lrc_envelope.specs.Records.{IndexedChangesRecord}
use Rattle.lrc_messages.specs.Lists.{before, separated}
use Rattle.lrc_messages.specs.MessageText.{change_text}
use Rattle.lrc_text.proofs.Pushed.{bracketed_ok, err_is, number_is, then_err}
use Rattle.lrc_messages.proofs.changes.push_part.Goals as goal

pub returns : goal.returns
returns c =
    let text = c.args.text.now.items in
    let sign = before c.args.place (codes " ") in
    let start = c.push_before.new.text.items in
    let start_is : start ≡ text ++ sign = c.in_ok-push_before.ensures.ok in
    let name : List ℕ = decimal c.args.part.now.index in
    let first = c.push_number.new.text.items in
    let first_is : first ≡ start ++ name =
    number_is start [] first c.from.result c.args.part.now.index c.in_ok-push_number.ensures.ok
    (c.from.ensures ∙ ap (λ (m : IndexedChangesRecord). m.index) c.part.view_is) in
    let last = c.push_bracketed.new.text.items in
    let result = c.push_bracketed.result in
    record {
      ok = bracketed_ok (text ++ sign) name first last (first_is ∙ ap (λ l. l ++ name) start_is) result
          (separated (codes ",") change_text c.args.part.now.changes)
          (subst (λ (m : IndexedChangesRecord). OnOk result (last ≡ first ++ (codes "[" ++ separated (codes ",") change_text m.changes ++ codes "]")))
          c.part.view_is c.push_bracketed.ensures.ok);
      err = then_err text sign start last start_is result (then_err start name first last first_is result c.push_bracketed.ensures.err);
    }

pub returns-in_err-push_before : goal.returns-in_err-push_before
returns-in_err-push_before c =
    record {
      ok = IfOk-from_err c.from_residual.result _ c.from_residual.ensures.0;
      err = err_is c.from_residual.result c.in_err-push_before.ensures.err;
    }

pub returns-in_err-push_number : goal.returns-in_err-push_number
returns-in_err-push_number c =
    record {
      ok = IfOk-from_err c.from_residual-in_err-push_number.result _ c.from_residual-in_err-push_number.ensures.0;
      err = err_is c.from_residual-in_err-push_number.result
          (begins_still c.args.text.now.items (before c.args.place (codes " ")) c.push_before.new.text.items c.push_number.new.text.items
          c.in_ok-push_before.ensures.ok c.in_err-push_number.ensures.err);
    }
