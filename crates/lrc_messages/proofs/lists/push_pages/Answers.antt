use Rattle.std.proofs.Common.{◌++◌, ◌<◌, ◌∙◌, ◌≡◌, ◌≤◌, ap, append-nil, subst, sym}
use Rattle.std.proofs.lemmas.List.{take_all}
use Rattle.std.proofs.lemmas.Result.{IfOk-from_err}
use Rattle.lrc_text.proofs.Fronts.{begins_still}
use Rattle.lrc_acts_text.specs.Json.{entry_text, with_commas}
use Rattle.lrc_messages.proofs.Joined.{commas_next}
use Rattle.lrc_text.proofs.Pushed.{err_is}
use Rattle.lrc_messages.proofs.lists.push_pages.Goals as goal

pub loop-place-init : goal.loop-place-init
loop-place-init c = sym (append-nil c.args.text.now.items)

pub returns-clause-ok : goal.returns-clause-ok
returns-clause-ok c =
    let all = subst (λ n. n ≤ c.loop-place.place) c.len-place-end.ensures.count c.loop-place-test.false in
    c.loop-place.invariant ∙ ap (λ l. c.args.text.now.items ++ with_commas l) (take_all c.loop-place.place c.args.pages.now all)

pub at-requires : goal.at-requires
at-requires c = subst (λ n. c.loop-place.place < n) c.len-place-end.ensures.count c.loop-place-test.true

pub loop-place-preserved : goal.loop-place-preserved
loop-place-preserved c =
    let number : c.from.result ≡ c.at.result = c.from.ensures in
    commas_next c.args.pages.now c.loop-place.place c.at.result c.args.text.now.items c.loop-place.text.items c.push_listed.new.text.items
    c.at.ensures c.loop-place.invariant
    (c.in_ok-push_listed.ensures.ok ∙ ap (λ n. c.loop-place.text.items ++ entry_text c.loop-place.place n) number)

pub returns-in_err-push_listed-clause-ok : goal.returns-in_err-push_listed-clause-ok
returns-in_err-push_listed-clause-ok c = IfOk-from_err c.from_residual.result _ c.from_residual.ensures.0

pub returns-in_err-push_listed-clause-err : goal.returns-in_err-push_listed-clause-err
returns-in_err-push_listed-clause-err c =
    err_is c.from_residual.result
    (begins_still c.args.text.now.items _ c.loop-place.text.items c.push_listed.new.text.items c.loop-place.invariant c.in_err-push_listed.ensures.err)
