use Rattle.std.proofs.Common.{◌∙◌, ◌++◌, ℕ, List, ap}
use Rattle.std.specs.Prelude.{codes, map}
use Rattle.lrc_trace.specs.declared.act.Act.{Act}
use Rattle.lrc_explain_waits.specs.Traps.{wording_of}
use Rattle.lrc_explore_text.specs.Orders.{ends_text, order_text}
use Rattle.lrc_explore_text.proofs.Ending.{of_lost}
use Rattle.lrc_explore_text.proofs.ends.lost_told.Goals as goal

pub returns : goal.returns
returns c =
    let wording = wording_of c.args.wording.now in
    let program = c.args.program.now in
    let nodes = c.args.nodes in
    let lines = c.args.lines.now in
    let made = c.in_ok-made.made.items in
    let head = codes "some order can no longer end:\n" in
    let acts = c.in_ok-acts.acts.items in
    let ends = c.in_ok-ends.ends.items in
    let acts_are = c.in_ok-acts.ensures ∙ ap (λ (a : List Act). order_text program nodes lines a) c.deref.ensures.value in
    let ends_are = c.in_ok-ends.ensures ∙ ap (λ (a : List Act). ends_text wording program nodes lines a) c.deref-2.ensures.value in
    of_lost wording program nodes lines c.args.order.now made c.in_ok-made.ensures.acts c.requires.lost (c.in_ok-head.head.items ++ acts ++ ends)
    (ap (λ (h : List ℕ). h ++ acts ++ ends) c.in_ok-head.ensures.items ∙ ap (λ (t : List ℕ). head ++ t ++ ends) acts_are
    ∙ ap (λ (e : List ℕ). head ++ order_text program nodes lines made ++ e) ends_are)
