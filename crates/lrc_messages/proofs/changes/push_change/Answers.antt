use Rattle.std.proofs.Common.{◌≡◌, ◌∙◌, ◌++◌, ℕ, List, [], ap, refl}
use Rattle.std.specs.Prelude.{codes, decimal}
use Rattle.std.proofs.lemmas.Result.{IfOk-from_err}
use Rattle.lrc_text.proofs.Fronts.{begins_still}
use Rattle.lrc_messages.specs.Lists.{before}
use Rattle.lrc_text.proofs.Pushed.{err_is, number_is, number_ok, then_err}
use Rattle.lrc_messages.proofs.changes.push_change.Goals as goal

pub returns : goal.returns
returns c =
    let text = c.args.text.now.items in
    let sign = before c.args.place (codes ",") in
    let start = c.push_before.new.text.items in
    let start_is : start ≡ text ++ sign = c.in_ok-push_before.ensures.ok in
    let offset : List ℕ = decimal c.args.change.offset in
    let first = c.push_number.new.text.items in
    let first_is : first ≡ start ++ offset =
    number_is start [] first c.from.result c.args.change.offset c.in_ok-push_number.ensures.ok c.from.ensures in
    let value = c.args.change.value in
    let last = c.push_number-2.new.text.items in
    let result = c.push_number-2.result in
    record {
      ok = number_ok (text ++ sign) offset first last (first_is ∙ ap (λ l. l ++ offset) start_is) result (codes "=") value value
          c.push_number-2.ensures.ok refl;
      err = then_err text sign start last start_is result (then_err start offset first last first_is result c.push_number-2.ensures.err);
    }

pub returns-in_err-push_before : goal.returns-in_err-push_before
returns-in_err-push_before c =
    record {
      ok = IfOk-from_err c.from_residual.result _ c.from_residual.ensures.0;
      err = err_is c.from_residual.result c.in_err-push_before.ensures.err;
    }

pub returns-in_err-push_number : goal.returns-in_err-push_number
returns-in_err-push_number c =
    record {
      ok = IfOk-from_err c.from_residual-in_err-push_number.result _ c.from_residual-in_err-push_number.ensures.0;
      err = err_is c.from_residual-in_err-push_number.result
          (begins_still c.args.text.now.items (before c.args.place (codes ",")) c.push_before.new.text.items c.push_number.new.text.items
          c.in_ok-push_before.ensures.ok c.in_err-push_number.ensures.err);
    }
