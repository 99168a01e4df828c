use Rattle.std.proofs.Common.{◌∙◌, ap, map}
use Rattle.std.proofs.lemmas.Result.{IfOk-weaker}
use Rattle.lrc_protocol.specs.Run.{turns_of_logs}
use Rattle.lrc_run.specs.Run.{turns_of_nodes}
use Rattle.lrc_turns_text.specs.Turns.{turns_told}
use Rattle.lrc_bytes_turns.specs.Turns.{bytes_text}
use Rattle.lrc_world.specs.declared.turned.Turned.{Turned}
use Rattle.lrc_cli_runs.proofs.trace.bytes_of.Goals as goal

pub returns : goal.returns
returns c =
    let run = c.args.run.now in
    let part = c.args.part in
    let section = c.section_of.result in
    let turns = c.deref-4.result.now in
    let from = ap (λ first. bytes_text first section.to section.events.now turns) c.section_of.ensures.from in
    let to = ap (λ last. bytes_text part.from last section.events.now turns) c.section_of.ensures.to in
    let events = ap (λ events. bytes_text part.from part.to events turns)
    (c.section_of.ensures.events ∙ c.deref-3.ensures.value ∙ c.in_ok-events.ensures ∙ ap (map (λ (turn : Turned). turn.event)) c.as_slice-turned.ensures.value) in
    let told = ap (bytes_text part.from part.to (map (λ (turn : Turned). turn.event) run.turned.items))
    (c.deref-4.ensures.value ∙ c.in_ok-turns.ensures ∙ ap (λ logs. turns_told (turns_of_logs logs) c.deref-2.result.now) c.deref.ensures.value
    ∙ ap (turns_told (turns_of_nodes run.report))
    (c.deref-2.ensures.value ∙ c.in_ok-order.ensures ∙ ap (map (λ (turn : Turned). turn.node)) c.as_slice-turned.ensures.value)) in
    IfOk-weaker c.bytes_part.result _ _ (λ bytes is. is ∙ from ∙ to ∙ events ∙ told) c.bytes_part.ensures
