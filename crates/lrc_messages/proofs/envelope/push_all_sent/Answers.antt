use Rattle.std.proofs.Common.{◌∙◌, ◌++◌, ◌∷◌, [], ap, append-nil, get_or, sym, take}
use Rattle.std.specs.List.{flat_map}
use Rattle.std.proofs.lemmas.List.{take_all, take_more}
use Rattle.std.proofs.lemmas.List.Concat.{flat_map-append}
use Rattle.std.proofs.lemmas.Result.{IfOk-from_err}
use Rattle.lrc_text.proofs.Fronts.{begins_still}
use Rattle.lrc_messages.specs.TurnText.{sent_text, sent_texts}
use Rattle.lrc_text.proofs.Pushed.{and_then, err_is}
use Rattle.lrc_messages.proofs.envelope.push_all_sent.Goals as goal

pub loop-envelope-init : goal.loop-envelope-init
loop-envelope-init c = sym (append-nil c.args.text.now.items)

pub loop-envelope-preserved : goal.loop-envelope-preserved
loop-envelope-preserved c =
    let out = c.args.out.now in
    let i = c.loop-envelope.envelope-index in
    let item = c.envelope-item.result in
    let of = sent_text c.args.node in
    let before = flat_map of (take i out) in
    let more = ap (flat_map of) (take_more out i item c.loop-envelope-test.true) ∙ flat_map-append of (take i out) (get_or out i item ∷ [])
    ∙ ap (λ l. before ++ l) (append-nil (of (get_or out i item)) ∙ ap of (sym c.envelope-item.is)) in
    and_then c.args.text.now.items before c.loop-envelope.text.items c.push_sent.new.text.items c.loop-envelope.invariant (of item)
    c.in_ok-push_sent.ensures.ok ∙ ap (λ l. c.args.text.now.items ++ l) (sym more)

pub returns-clause-ok : goal.returns-clause-ok
returns-clause-ok c =
    c.loop-envelope.invariant
    ∙ ap (λ l. c.args.text.now.items ++ sent_texts c.args.node l) (take_all c.loop-envelope.envelope-index c.args.out.now c.loop-envelope-test.false)

pub returns-in_err-push_sent-clause-ok : goal.returns-in_err-push_sent-clause-ok
returns-in_err-push_sent-clause-ok c = IfOk-from_err c.from_residual.result _ c.from_residual.ensures.0

pub returns-in_err-push_sent-clause-err : goal.returns-in_err-push_sent-clause-err
returns-in_err-push_sent-clause-err c =
    err_is c.from_residual.result
    (begins_still c.args.text.now.items _ c.loop-envelope.text.items c.push_sent.new.text.items c.loop-envelope.invariant c.in_err-push_sent.ensures.err)
