use Rattle.std.proofs.Common.{rules, ◌∙◌, ◌++◌, ℕ, List, ap, sym, append_assoc}
use Rattle.std.specs.List.{flat_map, range_with_len}
use Rattle.lrc_text.specs.Front.{BeginsWith}
use Rattle.lrc_text.proofs.Fronts.{begins_still}
use Rattle.lrc_text.proofs.Each.{range_more}
use Rattle.lrc_explain_waits.specs.Circles.{circle_if, circle_of}
use Rattle.lrc_explain_waits.proofs.circles.push_circles.Goals as goal

pub loop-first-preserved : goal.loop-first-preserved
loop-first-preserved c =
    let waits = c.args.waits.now in
    let first = c.loop-first.first in
    let text = c.args.text.now.items in
    let of : ℕ → List ℕ = λ k. circle_if k (circle_of waits k) in
    c.in_ok-push_circle_if.ensures.ok ∙ ap (λ circle. c.loop-first.text.items ++ circle_if first circle) c.in_ok-circle.ensures
    ∙ ap (λ l. l ++ of first) c.loop-first.invariant
    ∙ append_assoc text (flat_map of (range_with_len 0 first)) (of first) ∙ ap (λ l. text ++ l) (sym (range_more of first))

pub returns-in_err-push_circle_if-clause-err : goal.returns-in_err-push_circle_if-clause-err
returns-in_err-push_circle_if-clause-err c =
    let begins : BeginsWith c.push_circle_if.new.text.items c.args.text.now.items =
    begins_still c.args.text.now.items _ c.loop-first.text.items c.push_circle_if.new.text.items c.loop-first.invariant c.in_err-push_circle_if.ensures.err in
    search rules
