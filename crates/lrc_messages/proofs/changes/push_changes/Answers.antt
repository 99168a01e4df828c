use Rattle.std.proofs.Common.{◌++◌, ◌<◌, ◌∙◌, ◌≤◌, ap, append-nil, subst, sym}
use Rattle.std.specs.Prelude.{codes}
use Rattle.std.proofs.lemmas.List.{take_all}
use Rattle.std.proofs.lemmas.Result.{IfOk-from_err}
use Rattle.lrc_text.proofs.Fronts.{begins_still}
use Rattle.lrc_messages.specs.Lists.{separated}
use Rattle.lrc_messages.specs.MessageText.{change_text}
use Rattle.lrc_messages.proofs.Joined.{joined_next}
use Rattle.lrc_text.proofs.Pushed.{err_is}
use Rattle.lrc_messages.proofs.changes.push_changes.Goals as goal

pub loop-place-init : goal.loop-place-init
loop-place-init c = sym (append-nil c.args.text.now.items)

pub returns-clause-ok : goal.returns-clause-ok
returns-clause-ok c =
    let all = subst (λ n. n ≤ c.loop-place.place) c.len-place-end.ensures.count c.loop-place-test.false in
    c.loop-place.invariant ∙ ap (λ l. c.args.text.now.items ++ separated (codes ",") change_text l) (take_all c.loop-place.place c.args.changes.now all)

pub at-requires : goal.at-requires
at-requires c = subst (λ n. c.loop-place.place < n) c.len-place-end.ensures.count c.loop-place-test.true

pub loop-place-preserved : goal.loop-place-preserved
loop-place-preserved c =
    joined_next (codes ",") change_text c.args.changes.now c.loop-place.place c.at.result c.args.text.now.items
    c.loop-place.text.items c.push_change.new.text.items c.at.ensures c.loop-place.invariant c.in_ok-push_change.ensures.ok

pub returns-in_err-push_change-clause-ok : goal.returns-in_err-push_change-clause-ok
returns-in_err-push_change-clause-ok c = IfOk-from_err c.from_residual.result _ c.from_residual.ensures.0

pub returns-in_err-push_change-clause-err : goal.returns-in_err-push_change-clause-err
returns-in_err-push_change-clause-err c =
    err_is c.from_residual.result
    (begins_still c.args.text.now.items _ c.loop-place.text.items c.push_change.new.text.items c.loop-place.invariant c.in_err-push_change.ensures.err)
