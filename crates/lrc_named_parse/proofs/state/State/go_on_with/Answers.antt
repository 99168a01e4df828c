use Rattle.std.proofs.Common.{◌≡◌, sym, subst, ◌∙◌}
use Rattle.lrc_lang.specs.Parser.Seen.{GivesNew}
use Rattle.lrc_named_expression.specs.Partial.{partial_with, value_of}
use Rattle.lrc_named_expression.specs.Seen.{partial_seen}
use Rattle.lrc_named_tokens.specs.View.{token_of}
use Rattle.lrc_named_parse.specs.State.{continued, moved, in_expression, is_ending}
use Rattle.lrc_named_parse.specs.SeenState.{declared_seen, purpose_seen, state_seen}
use Rattle.lrc_named_parse.proofs.Continuing.{cannot_end, does_not_end}
use Rattle.lrc_named_parse.proofs.state.State.go_on_with.Goals as goal
use Rattle.lrc_named_parse.proofs.state.State.go_on_with.Goals.{else-is_whole-via-then-is_whole+else-is_ended_by, else-is_whole-via-else-is_whole}

pub returns : goal.returns
returns c =
    let before = declared_seen c.args.self.now in
    let purpose = purpose_seen c.args.purpose in
    let x = partial_seen c.args.self.now.expression in
    let t = token_of c.args.token in
    let e : moved before (in_expression purpose x) c.args.at t ≡ continued before purpose (partial_with x c.args.at t) =
    elim c.else-is_whole.branch [
      | else-is_whole-via-then-is_whole+else-is_ended_by w ↦
          does_not_end before purpose (value_of x) (is_ending purpose t) (partial_with x c.args.at t) (sym w.is_ended_by.ensures ∙ w.if-is_ended_by.false)
      | else-is_whole-via-else-is_whole w ↦
          cannot_end before purpose (value_of x) (is_ending purpose t) (partial_with x c.args.at t) (sym c.is_whole.ensures ∙ w.if-is_whole.false)
    ] in
    subst (GivesNew c.extend.result (state_seen c.extend.new.self)) (sym e) c.extend.ensures
