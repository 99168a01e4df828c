use Rattle.std.proofs.Common.{◌≡◌, ◌++◌, ℕ, List}
use Rattle.std.specs.Prelude.{codes}
use Rattle.std.proofs.lemmas.Result.{IfOk-from_err}
use Rattle.lrc_text.proofs.Fronts.{begins_still}
use Rattle.lrc_acts_text.specs.Json.{with_commas}
use Rattle.lrc_text.proofs.Pushed.{and_then, err_is, slice_err, slice_ok, unchanged}
use Rattle.lrc_messages.proofs.news.push_bracketed.Goals as goal

pub returns : goal.returns
returns c =
    let text = c.args.text.now.items in
    let first = c.extend_from_slice.new.self.items in
    let words_first : List ℕ = codes "[" in
    let first_is : first ≡ text ++ words_first =
    c.in_ok-extend_from_slice.ensures.items in
    let second = c.push_pages.new.text.items in
    let words_second : List ℕ = words_first ++ (with_commas c.args.pages.now) in
    let second_is : second ≡ text ++ words_second =
    and_then text words_first first second first_is (with_commas c.args.pages.now) c.in_ok-push_pages.ensures.ok in
    let last = c.extend_from_slice-2.new.self.items in
    record {
      ok = slice_ok text words_second second last second_is c.extend_from_slice-2.result (codes "]") c.extend_from_slice-2.ensures.items;
      err = slice_err text words_second second last second_is c.extend_from_slice-2.result (codes "]") c.extend_from_slice-2.ensures.items;
    }

pub returns-in_err-extend_from_slice : goal.returns-in_err-extend_from_slice
returns-in_err-extend_from_slice c =
    record {
      ok = IfOk-from_err c.from_residual.result _ c.from_residual.ensures.0;
      err = err_is c.from_residual.result (unchanged c.args.text.now.items c.extend_from_slice.new.self.items c.in_err-extend_from_slice.ensures.items);
    }

pub returns-in_err-push_pages : goal.returns-in_err-push_pages
returns-in_err-push_pages c =
    let text = c.args.text.now.items in
    let first = c.extend_from_slice.new.self.items in
    let words_first : List ℕ = codes "[" in
    let first_is : first ≡ text ++ words_first =
    c.in_ok-extend_from_slice.ensures.items in
    record {
      ok = IfOk-from_err c.from_residual-in_err-push_pages.result _ c.from_residual-in_err-push_pages.ensures.0;
      err = err_is c.from_residual-in_err-push_pages.result
          (begins_still text words_first first c.push_pages.new.text.items first_is c.in_err-push_pages.ensures.err);
    }
