-- By what the core comes to.
use Rattle.std.proofs.Common.{List, Vec, [], ◌∷◌, ◌++◌, map, refl, ap, subst, ◌∙◌}
use Rattle.std.specs.Prelude.{slice_index}
use Rattle.std.specs.declared.alloc.Global.{Global}
use Rattle.lrc_named_tree.specs.View.{program_of}
use Rattle.lrc_named_names.specs.View.{declared_of}
use Rattle.lrc_named_core.specs.View.{origin_of, trap_of}
use Rattle.lrc_named_core.specs.declared.tree.Origin.{Origin}
use Rattle.lrc_named_held.specs.declared.owns.Own.{Own}
use Rattle.lrc_named_held.specs.Held.{held_of, held_seen}
use Rattle.lrc_named_origins.specs.Origins.{lines_told, traps_told}
use Rattle.lrc_named_written.specs.Written.{IsWritten}
use Rattle.lrc_named.specs.Lines.{last_of}
use Rattle.lrc_named.proofs.Answering.{core_found, long_found, over_found}
use Rattle.lrc_named.proofs.core_text.of_names.Goals as goal

pub returns-in_ok-held-in-Core-clause-core : goal.returns-in_ok-held-in-Core-clause-core
returns-in_ok-held-in-Core-clause-core c =
    let tree = program_of c.args.program.now in
    let layout = c.args.layout.now in
    let lines = c.args.lines.now in
    let told = c.in_ok-lines-in-Core.lines.items in
    let traps = map trap_of c.in_ok-traps-in-Core.traps.items in
    let held = map (λ one. map held_seen one.items) c.in_ok-held-in-Core.held.items in
    let owns = map (λ one. one.items) c.in-Core.owns.items in
    core_found c.args.text.now c.requires.tokens.0 tree layout lines c.args.offsets.now _ c.in-Core.core.items (map origin_of c.in-Core.origins.items) owns told traps held
    c.requires.tokens.1 c.requires.clean c.requires.tokens.2 c.requires.tokens.3
    c.nodes_asked-nodes.ensures (subst (IsWritten (declared_of layout.names) lines tree) c.in-Core.is c.in_ok-written.ensures)
    (c.in_ok-lines-in-Core.ensures ∙ ap (λ (l : List Origin). lines_told lines (map origin_of l) ++ last_of lines ∷ []) c.deref.ensures.value)
    (c.in_ok-traps-in-Core.ensures ∙ ap (λ (l : List Origin). traps_told (map origin_of l)) c.deref-in-Core.ensures.value)
    (c.in_ok-held-in-Core.ensures ∙ ap (λ (l : List (Vec Own Global)). held_of c.args.text.now c.args.offsets.now (map (λ one. one.items) l)) c.deref-in-Core-2.ensures.value)

pub returns-in-Over-clause-fault : goal.returns-in-Over-clause-fault
returns-in-Over-clause-fault c =
    let tree = program_of c.args.program.now in
    let layout = c.args.layout.now in
    let lines = c.args.lines.now in
    over_found c.args.text.now c.requires.tokens.0 tree layout lines c.line_of-line.result c.in-Over.excess c.requires.tokens.1 c.requires.clean c.requires.tokens.2
    (c.line_of-line.ensures ∙ ap (slice_index lines) c.from.ensures) (subst (IsWritten (declared_of layout.names) lines tree) c.in-Over.is c.in_ok-written.ensures)

pub returns-in-TooLong-clause-fault : goal.returns-in-TooLong-clause-fault
returns-in-TooLong-clause-fault c =
    let tree = program_of c.args.program.now in
    let layout = c.args.layout.now in
    let lines = c.args.lines.now in
    long_found c.args.text.now c.requires.tokens.0 tree layout lines 1 c.requires.tokens.1 c.requires.clean c.requires.tokens.2 refl
    (subst (IsWritten (declared_of layout.names) lines tree) c.in-TooLong.is c.in_ok-written.ensures)
