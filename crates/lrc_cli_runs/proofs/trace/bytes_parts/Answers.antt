use Rattle.std.proofs.Common.{◌∙◌, List, ap, map}
use Rattle.std.proofs.lemmas.Result.{IfOk-weaker}
use Rattle.lrc_world.specs.declared.turned.Turned.{Turned}
use Rattle.lrc_run.specs.Run.{turns_of_nodes}
use Rattle.lrc_turns_text.specs.Turns.{turns_told}
use Rattle.lrc_bytes_turns.specs.Turns.{bytes_text}
use Rattle.lrc_cli_runs.proofs.RunLemmas.{turned_whole}
use Rattle.lrc_cli_runs.proofs.trace.bytes_parts.Goals as goal

pub returns : goal.returns
returns c = λ program options ran.
    let run = c.args.run.now in
    let part = c.args.part in
    IfOk-weaker c.in_one.result _ _
    (λ parts is.
    is ∙ c.in_ok-bytes.ensures
    ∙ ap (λ (turned : List Turned). bytes_text part.from part.to (map (λ turn. turn.event) turned)
    (turns_told (turns_of_nodes run.report) (map (λ turn. turn.node) turned))) (turned_whole program options run ran))
    c.in_one.ensures
