use Rattle.std.proofs.Common.{◌≡◌, ◌∙◌, Bor, IfOk, ℕ, List, Option, ap, ap₂, map, option_map, subst}
use Rattle.std.proofs.lemmas.Result.{IfOk-weaker}
use Rattle.lrc_labels.specs.Reading.{Label, label_seen}
use Rattle.lrc_program.specs.declared.Program.{Program}
use Rattle.lrc_judge.specs.FirstPairs.{AreFirstPairs}
use Rattle.lrc_judge.specs.declared.lanes.Pair.{Pair}
use Rattle.lrc_named_core.specs.Tree.{Trap}
use Rattle.lrc_named_core.specs.View.{trap_of}
use Rattle.lrc_named_core.specs.declared.tree.Trap as code_trap
use Rattle.lrc_source.specs.Telling.{ReadText, traps_of}
use Rattle.lrc_text.specs.Parts.{whole_text}
use Rattle.lrc_explain.specs.Explain.{explain_text}
use Rattle.lrc_explain_waits.specs.Traps.{traps_told}
use Rattle.lrc_cli_runs.proofs.shown.explained.Goals as goal

pub returns : goal.returns
returns c =
    let source = c.args.source.now in
    let options = c.args.options.now in
    let acts = c.args.acts.now in
    let nodes = options.nodes.count in
    let traps : List Trap = traps_told (traps_of source.text.telling) source.program nodes acts in
    let Tells = λ (labels : List Label) (said : List Trap) (code : Program) (lines : List ℕ). IfOk c.explain.result (λ parts. (pairs : List Pair)
    × AreFirstPairs acts pairs
    × (whole_text parts.items ≡ explain_text labels said code nodes lines options.steps.count acts pairs c.args.first_race)) in
    let said : option_map (λ (list : Bor (List code_trap.Trap)). map trap_of list.now) c.traps.result ≡ traps_of source.text.telling =
    c.traps.ensures ∙ ap (λ (text : ReadText). traps_of text.telling) c.text.ensures in
    let found : map trap_of c.deref.result.now ≡ traps =
    ap (λ (l : List code_trap.Trap). map trap_of l) c.deref.ensures.value ∙ c.in_ok-traps.ensures
    ∙ ap₂ (λ (list : Option (List Trap)) (p : Program). traps_told list p nodes acts) said c.code.ensures in
    IfOk-weaker c.explain.result _ _
    (λ parts told. (source.lines, c.lines.ensures.text, told))
    (subst (λ (labels : List Label). Tells labels traps source.program source.lines) (c.labels.ensures.labels ∙ c.labels.ensures.text)
    (subst (λ (list : List Trap). Tells (map label_seen c.labels.result.now) list source.program source.lines) found
    (subst (λ (code : Program). Tells (map label_seen c.labels.result.now) (map trap_of c.deref.result.now) code source.lines) c.code-2.ensures
    (subst (λ (lines : List ℕ). Tells (map label_seen c.labels.result.now) (map trap_of c.deref.result.now) c.code-2.result.now lines)
    c.lines.ensures.lines c.explain.ensures))))
