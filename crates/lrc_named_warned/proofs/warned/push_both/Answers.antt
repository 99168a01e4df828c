use Rattle.std.proofs.Common.{List, ap, map, ◌∙◌}
use Rattle.std.proofs.lemmas.Result.{on_ok_weaker}
use Rattle.lrc_labels.specs.Reading.{label_seen}
use Rattle.lrc_named_core.specs.View.{origin_of}
use Rattle.lrc_named_entries.specs.View.{entry_seen}
use Rattle.lrc_named_names.specs.View.{declared_of}
use Rattle.lrc_named_tokens.specs.View.{located_of}
use Rattle.lrc_named_tree.specs.declared.tree.Declaration as code_declaration
use Rattle.lrc_named_tree.specs.declared.tree.Statement.{Statement}
use Rattle.lrc_named_tree.specs.View.{block_of, declaration_of, program_of}
use Rattle.lrc_named_uses.specs.Loops.{loops_in}
use Rattle.lrc_named_uses.specs.Unused.{unused_of}
use Rattle.lrc_named_warnings.specs.Context.{context_seen}
use Rattle.lrc_named_warned.specs.CoreSide.{side_seen}
use Rattle.lrc_named_warned.specs.Warned.{context_of}
use Rattle.lrc_named_warned.proofs.Contexts.{tells_same}
use Rattle.lrc_named_warned.proofs.warned.push_both.Goals as goal

pub returns : goal.returns
returns c =
    let t = map located_of c.args.tokens.now in
    let declared = declared_of c.args.names.now in
    let side = side_seen c.args.side.now in
    let made = c.context_by-context.ensures in
    on_ok_weaker c.push_told.result
    (λ h. tells_same c.args.file.now (context_seen c.context_by-context.result)
    (context_of t (program_of c.args.program.now) declared (map origin_of c.args.origins.now) side) _ side.warned c.args.out.now.items
    c.push_told.new.out.items
    (made.spots ∙ c.deref-3.ensures.value ∙ c.in_ok-spots.ensures)
    (ap (map origin_of) made.origins)
    made.begins
    (ap (map (λ name. name.now)) made.names)
    (ap (map label_seen) made.labels)
    (made.loops ∙ c.deref-4.ensures.value ∙ c.in_ok-loops.ensures ∙ ap (λ (l : List Statement). loops_in declared t (block_of l)) c.deref.ensures.value)
    (ap (map entry_seen) (made.unused ∙ c.deref-5.ensures.value) ∙ c.in_ok-unused.ensures
    ∙ ap (λ (l : List code_declaration.Declaration). unused_of t (map declaration_of l)) c.deref-2.ensures.value)
    c.deref-6.ensures.value c.requires h)
    c.push_told.ensures
