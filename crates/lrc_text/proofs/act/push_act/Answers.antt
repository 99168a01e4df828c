-- A node, a blank and a deed are added; or one of them is refused.
use Rattle.std.proofs.Common.{◌≡◌, ◌∙◌, ◌++◌, ap, append_assoc}
use Rattle.std.proofs.lemmas.Result.{IfOk-from_err, on_err_weaker, on_ok_weaker}
use Rattle.std.specs.Prelude.{codes, decimal}
use Rattle.lrc_text.specs.ActText.{deed_text}
use Rattle.lrc_text.proofs.Fronts.{begins_first, begins_kept, begins_still, grown_first, told_err}
use Rattle.lrc_text.proofs.act.push_act.Goals as goal
use Rattle.lrc_text.proofs.act.push_act.Goals.{After-push_deed}

pub returns-in_err-push_number : goal.returns-in_err-push_number
returns-in_err-push_number c = record {
  ok = IfOk-from_err _ _ c.from_residual.ensures.0;
  err = told_err _ c.in_err-push_number.ensures.err;
}

pub returns-in_err-extend_from_slice : goal.returns-in_err-extend_from_slice
returns-in_err-extend_from_slice c = record {
  ok = IfOk-from_err _ _ c.from_residual-in_err-extend_from_slice.ensures.0;
  err = told_err _ (begins_kept c.in_err-extend_from_slice.ensures.items (begins_first _ _ c.in_ok-push_number.ensures.ok));
}

node : (c : After-push_deed)
    → c.extend_from_slice.new.self.items ≡ c.args.text.now.items ++ (decimal c.args.act.node ++ codes " ")
node c =
    c.in_ok-extend_from_slice.ensures.items ∙ ap (λ l. l ++ codes " ")
    (grown_first c.args.text.now.items (codes "") _ _ c.in_ok-push_number.ensures.ok c.from.ensures)
    ∙ append_assoc c.args.text.now.items (decimal c.args.act.node) (codes " ")

pub returns : goal.returns
returns c = record {
  ok = on_ok_weaker c.push_deed.result (λ is. is ∙ ap (λ l. l ++ deed_text c.args.act.deed) (node c)
      ∙ append_assoc c.args.text.now.items (decimal c.args.act.node ++ codes " ") (deed_text c.args.act.deed)) c.push_deed.ensures.ok;
  err = on_err_weaker c.push_deed.result (λ begins. begins_still _ _ _ _ (node c) begins) c.push_deed.ensures.err;
}
