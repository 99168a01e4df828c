use Rattle.std.proofs.Common.{◌≡◌, ◌∙◌, ◌++◌, ℕ, List, ap, subst}
use Rattle.std.specs.Prelude.{OnOk, codes, decimal}
use Rattle.std.proofs.lemmas.Result.{IfOk-from_err}
use Rattle.lrc_text.proofs.Fronts.{begins_still}
use Rattle.lrc_acts_text.specs.Json.{with_commas}
use Rattle.lrc_store.specs.Interval.{IntervalRecord, index_of}
use Rattle.lrc_messages.specs.Lists.{before}
use Rattle.lrc_text.proofs.Pushed.{bracketed_ok, err_is, then_err}
use Rattle.lrc_messages.proofs.news.push_interval.Goals as goal

pub returns : goal.returns
returns c =
    let text = c.args.text.now.items in
    let sign = before c.args.place (codes " ") in
    let start = c.push_before.new.text.items in
    let start_is : start ≡ text ++ sign = c.in_ok-push_before.ensures.ok in
    let name : List ℕ = decimal c.args.interval.now.node ++ codes "." ++ decimal (index_of c.args.interval.now) in
    let first = c.push_interval_name.new.text.items in
    let first_is : first ≡ start ++ name =
    c.in_ok-push_interval_name.ensures.ok in
    let last = c.push_bracketed.new.text.items in
    let result = c.push_bracketed.result in
    record {
      ok = bracketed_ok (text ++ sign) name first last (first_is ∙ ap (λ l. l ++ name) start_is) result (with_commas c.args.interval.now.pages)
          (subst (λ (m : IntervalRecord). OnOk result (last ≡ first ++ (codes "[" ++ with_commas m.pages ++ codes "]")))
          c.interval.view_is c.push_bracketed.ensures.ok);
      err = then_err text sign start last start_is result (then_err start name first last first_is result c.push_bracketed.ensures.err);
    }

pub returns-in_err-push_before : goal.returns-in_err-push_before
returns-in_err-push_before c =
    record {
      ok = IfOk-from_err c.from_residual.result _ c.from_residual.ensures.0;
      err = err_is c.from_residual.result c.in_err-push_before.ensures.err;
    }

pub returns-in_err-push_interval_name : goal.returns-in_err-push_interval_name
returns-in_err-push_interval_name c =
    record {
      ok = IfOk-from_err c.from_residual-in_err-push_interval_name.result _ c.from_residual-in_err-push_interval_name.ensures.0;
      err = err_is c.from_residual-in_err-push_interval_name.result
          (begins_still c.args.text.now.items (before c.args.place (codes " ")) c.push_before.new.text.items c.push_interval_name.new.text.items
          c.in_ok-push_before.ensures.ok c.in_err-push_interval_name.ensures.err);
    }
