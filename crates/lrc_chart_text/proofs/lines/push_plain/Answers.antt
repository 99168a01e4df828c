use Rattle.std.proofs.Common.{◌∙◌, ◌+◌, ◌++◌, ◌∷◌, [], ap, append-nil, get_or, sym, take}
use Rattle.std.proofs.lemmas.List.{map-append, take_all, take_more}
use Rattle.std.proofs.lemmas.Result.{IfOk-from_err}
use Rattle.lrc_chart_text.specs.Lines.{plain_sign, plain_signs}
use Rattle.lrc_chart_text.proofs.Steps.{pushed}
use Rattle.lrc_chart_text.proofs.lines.push_plain.Goals as goal

pub loop-sign-init : goal.loop-sign-init
loop-sign-init c = sym (append-nil c.args.text.now.items)

pub loop-sign-preserved : goal.loop-sign-preserved
loop-sign-preserved c =
    let words = c.args.words.now in
    let i = c.loop-sign.sign-index in
    let sign = get_or words i 0 in
    let text = c.loop-sign.text.items in
    pushed c.args.text.now.items (plain_signs (take i words)) (plain_sign sign ∷ []) text c.push.new.self.items (plain_signs (take (i + 1) words))
    (ap plain_signs (take_more words i 0 c.loop-sign-test.true) ∙ map-append plain_sign (take i words) (sign ∷ [])) c.loop-sign.invariant
    (c.in_ok-push.ensures.items ∙ ap (λ n. text ++ n ∷ []) c.plain_sign.ensures)

pub returns : goal.returns
returns c =
    c.loop-sign.invariant
    ∙ ap (λ l. c.args.text.now.items ++ plain_signs l) (take_all c.loop-sign.sign-index c.args.words.now c.loop-sign-test.false)

pub returns-in_err-push : goal.returns-in_err-push
returns-in_err-push c = IfOk-from_err c.from_residual.result _ c.from_residual.ensures.0
