-- An act, the words before its line and the line are added; or one of them is refused.
use Rattle.std.proofs.Common.{◌≡◌, ◌++◌}
use Rattle.std.proofs.lemmas.Result.{IfOk-from_err}
use Rattle.std.specs.Prelude.{codes, decimal}
use Rattle.lrc_text.specs.ActText.{act_text}
use Rattle.lrc_text.proofs.Fronts.{begins_still, ends_err, ends_ok, grown, told_err}
use Rattle.lrc_text.proofs.act.push_act_line.Goals as goal
use Rattle.lrc_text.proofs.act.push_act_line.Goals.{After-extend_from_slice}

pub returns-in_err-push_act : goal.returns-in_err-push_act
returns-in_err-push_act c = record {
  ok = IfOk-from_err _ _ c.from_residual.ensures.0;
  err = told_err _ c.in_err-push_act.ensures.err;
}

pub returns-in_err-push_number : goal.returns-in_err-push_number
returns-in_err-push_number c = record {
  ok = IfOk-from_err _ _ c.from_residual-in_err-push_number.ensures.0;
  err = told_err _ (begins_still _ _ _ _ c.in_ok-push_act.ensures.ok c.in_err-push_number.ensures.err);
}

line : (c : After-extend_from_slice)
    → c.push_number.new.text.items ≡ c.args.text.now.items ++ (act_text c.args.act ++ codes " # line " ++ decimal c.args.line)
line c =
    grown c.args.text.now.items (act_text c.args.act) (codes " # line ") _ _ c.in_ok-push_act.ensures.ok c.in_ok-push_number.ensures.ok c.from.ensures

pub returns : goal.returns
returns c = record {
  ok = ends_ok c.extend_from_slice.result c.args.text.now.items _ _ (line c) c.extend_from_slice.ensures.items;
  err = ends_err c.extend_from_slice.result c.args.text.now.items _ _ (line c) c.extend_from_slice.ensures.items;
}
