use Rattle.std.proofs.Common.{◌≡◌, ◌∙◌, ◌++◌, ℕ, List, ap, subst}
use Rattle.std.specs.Prelude.{OnOk, codes}
use Rattle.std.proofs.lemmas.Result.{IfOk-from_err}
use Rattle.lrc_text.proofs.Fronts.{begins_still}
use Rattle.lrc_envelope.specs.Records.{NewsRecord}
use Rattle.lrc_messages.specs.Lists.{separated_or_dash}
use Rattle.lrc_messages.specs.MessageText.{interval_text, time_text}
use Rattle.lrc_text.proofs.Pushed.{and_then, err_is, then_err, then_ok, unchanged}
use Rattle.lrc_messages.proofs.news.push_news.Goals as goal

pub returns : goal.returns
returns c =
    let text = c.args.text.now.items in
    let first = c.push_time.new.text.items in
    let words_first : List ℕ = time_text c.args.news.now.time in
    let first_is : first ≡ text ++ words_first =
    c.in_ok-push_time.ensures.ok ∙ ap (λ (m : NewsRecord). text ++ time_text m.time) c.news.view_is in
    let second = c.extend_from_slice.new.self.items in
    let words_second : List ℕ = words_first ++ (codes " news ") in
    let second_is : second ≡ text ++ words_second =
    and_then text words_first first second first_is (codes " news ") c.in_ok-extend_from_slice.ensures.items in
    let last = c.push_intervals_or_dash.new.text.items in
    record {
      ok = then_ok text words_second second last second_is c.push_intervals_or_dash.result (separated_or_dash (codes " ") interval_text
          c.args.news.now.intervals)
          (subst (λ (m : NewsRecord). OnOk c.push_intervals_or_dash.result (last ≡ second ++ separated_or_dash (codes " ") interval_text m.intervals))
          c.news.view_is c.push_intervals_or_dash.ensures.ok);
      err = then_err text words_second second last second_is c.push_intervals_or_dash.result c.push_intervals_or_dash.ensures.err;
    }

pub returns-in_err-push_time : goal.returns-in_err-push_time
returns-in_err-push_time c =
    record {
      ok = IfOk-from_err c.from_residual.result _ c.from_residual.ensures.0;
      err = err_is c.from_residual.result c.in_err-push_time.ensures.err;
    }

pub returns-in_err-extend_from_slice : goal.returns-in_err-extend_from_slice
returns-in_err-extend_from_slice c =
    let text = c.args.text.now.items in
    let first = c.push_time.new.text.items in
    let words_first : List ℕ = time_text c.args.news.now.time in
    let first_is : first ≡ text ++ words_first =
    c.in_ok-push_time.ensures.ok ∙ ap (λ (m : NewsRecord). text ++ time_text m.time) c.news.view_is in
    record {
      ok = IfOk-from_err c.from_residual-in_err-extend_from_slice.result _ c.from_residual-in_err-extend_from_slice.ensures.0;
      err = err_is c.from_residual-in_err-extend_from_slice.result
          (begins_still text words_first first c.extend_from_slice.new.self.items first_is (unchanged first c.extend_from_slice.new.self.items
          c.in_err-extend_from_slice.ensures.items));
    }
