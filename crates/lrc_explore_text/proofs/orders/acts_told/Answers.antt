use Rattle.std.proofs.Common.{◌≡◌, ◌∙◌, ℕ, List, [], length, ap}
use Rattle.std.specs.Prelude.{Vec}
use Rattle.std.specs.declared.alloc.Global.{Global}
use Rattle.std.proofs.lemmas.Result.{IfOk-weaker}
use Rattle.lrc_program.specs.declared.Program.{Program}
use Rattle.lrc_lines.specs.Walks.{act_lines}
use Rattle.lrc_acts_text.specs.ActsText.{acts_text}
use Rattle.lrc_explore_text.specs.Orders.{order_text}
use Rattle.lrc_explore_text.proofs.Led.{as_many_lines}
use Rattle.lrc_explore_text.proofs.orders.acts_told.Goals as goal

pub acts_part-requires : goal.acts_part-requires
acts_part-requires c =
    ap (λ (l : List ℕ). length l) (c.deref.ensures.value ∙ c.in_ok-found.ensures)
    ∙ as_many_lines c.in_ok-code.code c.args.nodes c.args.lines.now [] c.args.acts.now

pub returns : goal.returns
returns c =
    let acts = c.args.acts.now in
    let is = ap (acts_text acts)
    (c.deref.ensures.value ∙ c.in_ok-found.ensures
    ∙ ap (λ (p : Program). act_lines p c.args.nodes c.args.lines.now acts) c.in_ok-code.ensures) in
    IfOk-weaker c.acts_part.result (λ (text : Vec ℕ Global). text.items ≡ acts_text acts c.deref.result.now)
    (λ text. text.items ≡ order_text c.args.program.now c.args.nodes c.args.lines.now acts) (λ text e. e ∙ is) c.acts_part.ensures
