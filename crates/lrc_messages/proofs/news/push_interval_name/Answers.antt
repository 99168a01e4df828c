use Rattle.std.proofs.Common.{◌≡◌, ◌∙◌, ◌++◌, ℕ, List, [], ap}
use Rattle.std.specs.Prelude.{codes, decimal}
use Rattle.std.proofs.lemmas.Result.{IfOk-from_err}
use Rattle.lrc_store.specs.Interval.{IntervalRecord, index_of}
use Rattle.lrc_text.proofs.Pushed.{err_is, number_is, number_ok, then_err}
use Rattle.lrc_messages.proofs.news.push_interval_name.Goals as goal

pub returns : goal.returns
returns c =
    let text = c.args.text.now.items in
    let first = c.push_number.new.text.items in
    let words_first : List ℕ = decimal c.args.interval.now.node in
    let first_is : first ≡ text ++ words_first =
    number_is text [] first c.from.result c.args.interval.now.node c.in_ok-push_number.ensures.ok (c.from.ensures ∙ ap (λ (i : IntervalRecord). i.node)
    c.interval.view_is) in
    let last = c.push_number-2.new.text.items in
    record {
      ok = number_ok text words_first first last first_is c.push_number-2.result (codes ".") c.from-2.result (index_of c.args.interval.now)
          c.push_number-2.ensures.ok (c.from-2.ensures ∙ c.index.ensures.index);
      err = then_err text words_first first last first_is c.push_number-2.result c.push_number-2.ensures.err;
    }

pub returns-in_err-push_number : goal.returns-in_err-push_number
returns-in_err-push_number c =
    record {
      ok = IfOk-from_err c.from_residual.result _ c.from_residual.ensures.0;
      err = err_is c.from_residual.result c.in_err-push_number.ensures.err;
    }
