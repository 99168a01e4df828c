use Rattle.std.proofs.Common.{◌∙◌, ◌++◌, ◌∷◌, [], ℕ, List, Bool, ap, cond, get_or, sym}
use Rattle.lrc_text.proofs.Each.{each_more}
use Rattle.lrc_chart_acts.specs.Times.{closing_at}
use Rattle.lrc_chart_acts.proofs.Tables.{no_act}
use Rattle.lrc_chart_acts.proofs.closings.closings_of.Goals as goal

pub loop-k-preserved : goal.loop-k-preserved
loop-k-preserved c =
    let k = c.loop-k.k in
    let before : List ℕ = c.loop-k.found.items in
    c.in_ok-push_if.ensures ∙ ap (λ (b : Bool). before ++ cond b (k ∷ []) []) c.is_closing.ensures
    ∙ ap (λ (l : List ℕ). l ++ closing_at c.args.node k (get_or c.args.acts.now k no_act)) c.loop-k.invariant
    ∙ sym (each_more (closing_at c.args.node) c.args.acts.now k no_act c.loop-k-test.true)
