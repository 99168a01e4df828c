use Rattle.std.proofs.Common.{◌≡◌, ◌++◌, ℕ, List}
use Rattle.std.specs.Prelude.{codes}
use Rattle.std.proofs.lemmas.Result.{IfOk-from_err}
use Rattle.lrc_acts_text.specs.Json.{with_commas}
use Rattle.lrc_text.proofs.Pushed.{err_is, then_err, then_ok, unchanged}
use Rattle.lrc_messages.proofs.news.push_time.Goals as goal

pub returns : goal.returns
returns c =
    let text = c.args.text.now.items in
    let first = c.extend_from_slice.new.self.items in
    let words_first : List ℕ = codes " time " in
    let first_is : first ≡ text ++ words_first =
    c.in_ok-extend_from_slice.ensures.items in
    let last = c.push_entries.new.text.items in
    record {
      ok = then_ok text words_first first last first_is c.push_entries.result (with_commas c.args.time.now) c.push_entries.ensures.ok;
      err = then_err text words_first first last first_is c.push_entries.result c.push_entries.ensures.err;
    }

pub returns-in_err-extend_from_slice : goal.returns-in_err-extend_from_slice
returns-in_err-extend_from_slice c =
    record {
      ok = IfOk-from_err c.from_residual.result _ c.from_residual.ensures.0;
      err = err_is c.from_residual.result (unchanged c.args.text.now.items c.extend_from_slice.new.self.items c.in_err-extend_from_slice.ensures.items);
    }
