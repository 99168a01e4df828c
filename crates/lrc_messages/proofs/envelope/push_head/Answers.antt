use Rattle.std.proofs.Common.{◌≡◌, ◌++◌, ℕ, List}
use Rattle.std.specs.Prelude.{codes, decimal}
use Rattle.std.proofs.lemmas.Result.{IfOk-from_err}
use Rattle.lrc_text.proofs.Fronts.{begins_still}
use Rattle.lrc_text.proofs.Pushed.{and_number, err_is, number_is, number_ok, then_err}
use Rattle.lrc_messages.proofs.envelope.push_head.Goals as goal

pub returns : goal.returns
returns c =
    let text = c.args.text.now.items in
    let first = c.push_number.new.text.items in
    let words_first : List ℕ = codes "# node " ++ decimal c.args.node in
    let first_is : first ≡ text ++ words_first =
    number_is text (codes "# node ") first c.from.result c.args.node c.in_ok-push_number.ensures.ok c.from.ensures in
    let second = c.push_number-2.new.text.items in
    let words_second : List ℕ = words_first ++ c.args.does.now ++ decimal c.args.number in
    let second_is : second ≡ text ++ words_second =
    and_number text words_first first second first_is c.args.does.now c.from-2.result c.args.number c.in_ok-push_number-2.ensures.ok c.from-2.ensures in
    let last = c.push_number-3.new.text.items in
    record {
      ok = number_ok text words_second second last second_is c.push_number-3.result c.args.way.now c.from-3.result c.args.other c.push_number-3.ensures.ok
          c.from-3.ensures;
      err = then_err text words_second second last second_is c.push_number-3.result c.push_number-3.ensures.err;
    }

pub returns-in_err-push_number : goal.returns-in_err-push_number
returns-in_err-push_number c =
    record {
      ok = IfOk-from_err c.from_residual.result _ c.from_residual.ensures.0;
      err = err_is c.from_residual.result c.in_err-push_number.ensures.err;
    }

pub returns-in_err-push_number-2 : goal.returns-in_err-push_number-2
returns-in_err-push_number-2 c =
    let text = c.args.text.now.items in
    let first = c.push_number.new.text.items in
    let words_first : List ℕ = codes "# node " ++ decimal c.args.node in
    let first_is : first ≡ text ++ words_first =
    number_is text (codes "# node ") first c.from.result c.args.node c.in_ok-push_number.ensures.ok c.from.ensures in
    record {
      ok = IfOk-from_err c.from_residual-in_err-push_number-2.result _ c.from_residual-in_err-push_number-2.ensures.0;
      err = err_is c.from_residual-in_err-push_number-2.result
          (begins_still text words_first first c.push_number-2.new.text.items first_is c.in_err-push_number-2.ensures.err);
    }
