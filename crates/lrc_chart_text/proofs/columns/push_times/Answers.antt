use Rattle.std.proofs.Common.{◌≡◌, ◌∙◌, ◌+◌, ◌++◌, ◌∷◌, [], ap, append-nil, arith, replicate, sym}
use Rattle.std.proofs.lemmas.List.{replicate_more}
use Rattle.std.proofs.lemmas.Result.{IfOk-from_err}
use Rattle.lrc_chart_text.proofs.Steps.{pushed}
use Rattle.lrc_chart_text.proofs.columns.push_times.Goals as goal

pub loop-time-init : goal.loop-time-init
loop-time-init c = sym (append-nil c.args.text.now.items)

pub loop-time-preserved : goal.loop-time-preserved
loop-time-preserved c =
    let n = c.loop-time._time in
    let sign = c.args.sign in
    pushed c.args.text.now.items (replicate n sign) (sign ∷ []) c.loop-time.text.items c.push.new.self.items (replicate (n + 1) sign)
    (sym (replicate_more n sign)) c.loop-time.invariant c.in_ok-push.ensures.items

pub returns : goal.returns
returns c =
    let all : c.loop-time._time ≡ c.args.times = omega arith in
    c.loop-time.invariant ∙ ap (λ n. c.args.text.now.items ++ replicate n c.args.sign) all

pub returns-in_err-push : goal.returns-in_err-push
returns-in_err-push c = IfOk-from_err c.from_residual.result _ c.from_residual.ensures.0
