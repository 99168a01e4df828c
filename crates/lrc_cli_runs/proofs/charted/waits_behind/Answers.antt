use Rattle.std.proofs.Common.{◌≡◌, ◌∙◌, List, ℕ, Some, ap, ap₂}
use Rattle.std.proofs.lemmas.Result.{IfOk-weaker}
use Rattle.lrc_program.specs.declared.Program.{Program}
use Rattle.lrc_explain_waits.specs.Circles.{waits_of}
use Rattle.lrc_explain_waits.specs.Followed.{AreFollowed}
use Rattle.lrc_explain_waits.specs.Stand.{stands_of}
use Rattle.lrc_cli_runs.specs.Charted.{AreWaitsIn}
use Rattle.lrc_cli_runs.proofs.charted.waits_behind.Goals as goal

pub returns : goal.returns
returns c =
    let source = c.args.source.now in
    let options = c.args.options.now in
    let acts = c.args.acts.now in
    let program = c.code.result.now in
    let lines = c.lines.result.now in
    let nodes = options.nodes.count in
    let are : AreFollowed program nodes lines acts c.in_ok-followed.followed = record {
      lines_are = c.in_ok-followed.ensures.lines;
      walks_are = c.in_ok-followed.ensures.walks;
      end_is = c.in_ok-followed.ensures.end;
    } in
    let made : c.deref.result.now ≡ stands_of source.program nodes source.lines (Some options.steps.count) acts =
    c.deref.ensures.value ∙ c.in_ok-stands.ensures program lines are
    ∙ ap₂ (λ (p : Program) (l : List ℕ). stands_of p nodes l (Some options.steps.count) acts) c.code.ensures c.lines.ensures.lines in
    IfOk-weaker c.waits_of.result (λ waits. waits.items ≡ waits_of c.deref.result.now)
    (λ waits. AreWaitsIn source.text source.program options acts waits.items)
    (λ waits is. (source.lines, c.lines.ensures.text, is ∙ ap waits_of made)) c.waits_of.ensures
