use Rattle.std.proofs.Common.{◌≡◌, ◌∙◌, ◌++◌, ℕ, List, ap, subst}
use Rattle.std.specs.Prelude.{OnOk, codes}
use Rattle.std.proofs.lemmas.Result.{IfOk-from_err}
use Rattle.lrc_text.proofs.Fronts.{begins_still}
use Rattle.lrc_wire.specs.declared.kind.MessageKind.TheVariants as kinds
use Rattle.lrc_acts_text.specs.Json.{with_commas}
use Rattle.lrc_envelope.specs.Records.{ChangesRequestRecord}
use Rattle.lrc_messages.specs.MessageText.{named}
use Rattle.lrc_text.proofs.Pushed.{and_then, err_is, then_err, then_ok, unchanged}
use Rattle.lrc_messages.proofs.message.push_changes_request.Goals as goal

pub returns : goal.returns
returns c =
    let text = c.args.text.now.items in
    let first = c.push_named.new.text.items in
    let words_first : List ℕ = named kinds.ChangesRequest (codes " page ") c.args.m.now.page in
    let first_is : first ≡ text ++ words_first =
    c.in_ok-push_named.ensures.ok ∙ ap (λ n. text ++ named kinds.ChangesRequest (codes " page ") n) (c.from.ensures ∙ ap (λ
    (m : ChangesRequestRecord). m.page) c.m.view_is) in
    let second = c.extend_from_slice.new.self.items in
    let words_second : List ℕ = words_first ++ (codes " intervals ") in
    let second_is : second ≡ text ++ words_second =
    and_then text words_first first second first_is (codes " intervals ") c.in_ok-extend_from_slice.ensures.items in
    let last = c.push_indices.new.text.items in
    record {
      ok = then_ok text words_second second last second_is c.push_indices.result (with_commas c.args.m.now.indices)
          (subst (λ (m : ChangesRequestRecord). OnOk c.push_indices.result (last ≡ second ++ with_commas m.indices)) c.m.view_is c.push_indices.ensures.ok);
      err = then_err text words_second second last second_is c.push_indices.result c.push_indices.ensures.err;
    }

pub returns-in_err-push_named : goal.returns-in_err-push_named
returns-in_err-push_named c =
    record {
      ok = IfOk-from_err c.from_residual.result _ c.from_residual.ensures.0;
      err = err_is c.from_residual.result c.in_err-push_named.ensures.err;
    }

pub returns-in_err-extend_from_slice : goal.returns-in_err-extend_from_slice
returns-in_err-extend_from_slice c =
    let text = c.args.text.now.items in
    let first = c.push_named.new.text.items in
    let words_first : List ℕ = named kinds.ChangesRequest (codes " page ") c.args.m.now.page in
    let first_is : first ≡ text ++ words_first =
    c.in_ok-push_named.ensures.ok ∙ ap (λ n. text ++ named kinds.ChangesRequest (codes " page ") n) (c.from.ensures ∙ ap (λ
    (m : ChangesRequestRecord). m.page) c.m.view_is) in
    record {
      ok = IfOk-from_err c.from_residual-in_err-extend_from_slice.result _ c.from_residual-in_err-extend_from_slice.ensures.0;
      err = err_is c.from_residual-in_err-extend_from_slice.result
          (begins_still text words_first first c.extend_from_slice.new.self.items first_is (unchanged first c.extend_from_slice.new.self.items
          c.in_err-extend_from_slice.ensures.items));
    }
